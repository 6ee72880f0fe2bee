use Rattle.std.proofs.Common.{◌≡◌, ◌++◌, ◌∙◌, ℕ, ◌<◌, List, ap, pos, negsuc, w32, to_z, arith}
use Rattle.std.proofs.lemmas.Int.{to_z_pos}
use Rattle.bf_core.specs.Terms.{JobName}
use Rattle.bf_dependents.specs.declared.place.Place.{Place}
use Rattle.bf_dependents.specs.Listing.{up_to}
use Rattle.bf_clear.specs.inner.Failing.{failed_at}
use Rattle.bf_dependents.proofs.Listed.{up_to_more}
use Rattle.bf_clear.proofs.failing.add_failed_of_task.Goals as goal

pub loop-place-preserved : goal.loop-place-preserved
loop-place-preserved c =
    let report = c.args.report.now in
    let place = c.loop-place.place in
    let f : ℕ → List Place = λ i. failed_at report c.args.run c.args.task (pos i) in
    let before = c.args.found.now.items ++ failed_at report c.args.run c.args.task (negsuc 0) in
    let test = c.loop-place-test.true in
    let few = c.instance_count_at-place-end.ensures.few in
    let low : place < 2_147_483_648 = omega (arith, test, few) in
    let index : to_z w32 place ≡ pos place = to_z_pos w32 place low in
    let name = ap (λ (n : JobName). failed_at report n.run n.task n.index) c.name_of_first_try-in-loop-place.ensures in
    let here = name ∙ ap (failed_at report c.args.run c.args.task) index in
    c.in_ok-add_if_failed-2.ensures
    ∙ (ap (λ xs. xs ++ failed_at report c.name_of_first_try-in-loop-place.result.run c.name_of_first_try-in-loop-place.result.task c.name_of_first_try-in-loop-place.result.index) c.loop-place.invariant
    ∙ (ap (λ ys. (before ++ up_to f place) ++ ys) here ∙ up_to_more f before place))
