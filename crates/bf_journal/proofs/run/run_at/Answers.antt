use Rattle.std.proofs.Common.{◌≡◌, ◌∙◌, subst, sym, to_z, of_z, rules}
use Rattle.std.specs.Prelude.{slice_get}
use Rattle.std.specs.Int.{w128}
use Rattle.std.proofs.lemmas.Int.{to_z-of_z}
use Rattle.std.proofs.lemmas.List.Sorted.{answers_always}
use Rattle.bf_interval.specs.Runs.{AreOfRuns}
use Rattle.bf_journal.specs.inner.Tells.{StartsOn}
use Rattle.bf_journal.proofs.Starting.{found, not_found, start_of}
use Rattle.bf_journal.proofs.run.run_at.Goals as goal

pub returns-in-Ok : goal.returns-in-Ok
returns-in-Ok c =
    let runs = c.intervals.result.now in
    let is = c.intervals.ensures.intervals in
    let are : AreOfRuns runs = subst AreOfRuns (sym is) c.intervals.ensures.of_runs in
    let by_key = c.in-Ok.ensures.position start_of (answers_always _ _ _ (λ f a r g called. search rules)) in
    let key : to_z w128 (of_z w128 c.as_nanosecond-key.result) ≡ c.as_nanosecond-key.result = search (rules, to_z-of_z) in
    let on = found runs are (to_z w128 (of_z w128 c.as_nanosecond-key.result)) c.in-Ok.at c.in-Ok.ensures.bound by_key in
    subst (λ l. StartsOn (slice_get l c.in-Ok.at) c.args.moment.nanosecond) is (subst (λ z. StartsOn (slice_get runs c.in-Ok.at) z) (key ∙ c.as_nanosecond-key.ensures) on)

pub returns-in-Err : goal.returns-in-Err
returns-in-Err c k starts =
    let runs = c.intervals.result.now in
    let is = c.intervals.ensures.intervals in
    let are : AreOfRuns runs = subst AreOfRuns (sym is) c.intervals.ensures.of_runs in
    let by_key = c.in-Err.ensures.position start_of (answers_always _ _ _ (λ f a r g called. search rules)) in
    let key : to_z w128 (of_z w128 c.as_nanosecond-key.result) ≡ c.as_nanosecond-key.result = search (rules, to_z-of_z) in
    not_found runs are (to_z w128 (of_z w128 c.as_nanosecond-key.result)) c.in-Err.field-0 by_key k
    (subst (λ l. StartsOn (slice_get l k) (to_z w128 (of_z w128 c.as_nanosecond-key.result))) (sym is)
    (subst (λ z. StartsOn (slice_get c.args.runs.now k) z) (sym (key ∙ c.as_nanosecond-key.ensures)) starts))
