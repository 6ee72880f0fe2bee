use Rattle.std.proofs.Common.{◌≡◌, List, Bor, map, option_map, slice_get, ap, ◌∙◌}
use Rattle.clap.specs.Words.{Text, found_of, rows_of}
use Rattle.bf_command_line.specs.Asked.{texts_in}
use Rattle.bf_command_line.proofs.Rows.{all_of_found, get_map, looked_up}
use Rattle.bf_command_line.proofs.value.text_at.Goals as goal

pub returns-in-Some : goal.returns-in-Some
returns-in-Some c =
    let all : map (λ (v : Bor Text). v.now) c.in-Some.texts.now ≡ texts_in c.args.id.now (rows_of (found_of c.args.matches.now)) =
    rw c.in-Some.is at (all_of_found (found_of c.args.matches.now) c.args.id.now _ c.get_strs.ensures) in
    ap (option_map (λ (v : Bor Text). v.now)) (c.copied.ensures ∙ looked_up _ c.in-Some.texts.now c.args.place c.get.result c.get.ensures.lookup.1 c.get.ensures.lookup.3)
    ∙ (get_map (λ (v : Bor Text). v.now) c.in-Some.texts.now c.args.place ∙ ap (λ (ts : List Text). slice_get ts c.args.place) all)

pub returns-in-None : goal.returns-in-None
returns-in-None c =
    ap (λ (ts : List Text). slice_get ts c.args.place) (rw c.in-None.is at (all_of_found (found_of c.args.matches.now) c.args.id.now _ c.get_strs.ensures))
