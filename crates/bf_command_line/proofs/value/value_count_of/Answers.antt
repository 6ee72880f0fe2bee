use Rattle.std.proofs.Common.{◌≡◌, Bor, length, map, sym, ap, ◌∙◌}
use Rattle.std.proofs.lemmas.List.{length-map}
use Rattle.clap.specs.Words.{Text, found_of, rows_of}
use Rattle.bf_command_line.specs.Asked.{texts_in}
use Rattle.bf_command_line.proofs.Rows.{all_of_found}
use Rattle.bf_command_line.proofs.value.value_count_of.Goals as goal

pub returns-in-Some : goal.returns-in-Some
returns-in-Some c =
    let all : map (λ (v : Bor Text). v.now) c.in-Some.texts.now ≡ texts_in c.args.id.now (rows_of (found_of c.args.matches.now)) =
    rw c.in-Some.is at (all_of_found (found_of c.args.matches.now) c.args.id.now _ c.get_strs.ensures) in
    sym (length-map c.in-Some.texts.now (λ (v : Bor Text). v.now)) ∙ ap length all

pub returns-in-None : goal.returns-in-None
returns-in-None c =
    ap length (rw c.in-None.is at (all_of_found (found_of c.args.matches.now) c.args.id.now _ c.get_strs.ensures))
