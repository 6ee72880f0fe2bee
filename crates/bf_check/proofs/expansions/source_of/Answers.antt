use Rattle.std.proofs.Common.{List, ℕ, None, Some, ap, sym, ◌≡◌, ◌∙◌}
use Rattle.std.specs.List.{position}
use Rattle.std.specs.Str.{bytes_eq}
use Rattle.bf_check.proofs.NumberLemmas.{no_source, source_there}
use Rattle.bf_check.proofs.expansions.source_of.Goals as goal

pub returns-in_err-place : goal.returns-in_err-place
returns-in_err-place c = λ ids are.
    let placed : position (bytes_eq c.in-Some.id) c.args.task.now.upstreams ≡ None = sym (c.in_err-place.ensures.place ∙ ap (λ (s : List ℕ). position (bytes_eq s) c.as_slice.result.now) c.as_str.ensures ∙ ap (position (bytes_eq c.in-Some.id)) c.as_slice.ensures) in
    c.from_residual.ensures ∙ sym (no_source ids c.args.task.now c.in-Some.id c.in-Some.is placed)

pub returns : goal.returns
returns c = λ ids are.
    let placed : position (bytes_eq c.in-Some.id) c.args.task.now.upstreams ≡ Some c.in_ok-place.place = sym (c.in_ok-place.ensures.place ∙ ap (λ (s : List ℕ). position (bytes_eq s) c.as_slice.result.now) c.as_str.ensures ∙ ap (position (bytes_eq c.in-Some.id)) c.as_slice.ensures) in
    sym (source_there ids c.args.task.now c.in-Some.id c.in-Some.is c.in_ok-place.place c.args.upstreams.now placed are)
