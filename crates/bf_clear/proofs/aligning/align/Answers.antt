use Rattle.std.proofs.Common.{◌≡◌, List, map, refl, sym, ap, ◌∙◌, subst}
use Rattle.std.specs.List.{position}
use Rattle.std.specs.Str.{bytes_eq}
use Rattle.bf_interval.specs.declared.interval.Interval.{Interval}
use Rattle.bf_core.specs.Terms.{Dag, Task}
use Rattle.bf_clear.specs.Aligning.{AreAligned}
use Rattle.bf_clear.specs.inner.Aligning.{AreApart}
use Rattle.bf_clear.proofs.Aligned.{aligned_by_ids, tasks_apart}
use Rattle.bf_clear.proofs.aligning.align.Goals as goal

pub runs_over-requires-clause-apart : goal.runs_over-requires-clause-apart
runs_over-requires-clause-apart c =
    let ids = c.args.report.tasks in
    let tasks = c.args.plan.now.dag.tasks in
    let all : c.as_slice-tasks.result.now ≡ tasks = c.as_slice-tasks.ensures ∙ ap (λ (dag : Dag). dag.tasks) c.dag-dag.ensures.dag in
    let are : c.as_slice-2.result.now ≡ map (λ (task : Task). position (bytes_eq task.id) ids) tasks =
    c.as_slice-2.ensures.value ∙ (c.in_ok-places.ensures ∙ (λ k. map (λ (task : Task). position (bytes_eq task.id) (c.as_slice.ensures k)) (all k))) in
    subst AreApart (sym are) (tasks_apart ids tasks c.dag-dag.ensures.named.distinct)

pub returns : goal.returns
returns c =
    let ids = c.args.report.tasks in
    let dag = c.dag-dag.result.now in
    let all : c.as_slice-tasks.result.now ≡ dag.tasks = c.as_slice-tasks.ensures in
    let are : c.as_slice-2.result.now ≡ map (λ (task : Task). position (bytes_eq task.id) ids) dag.tasks =
    c.as_slice-2.ensures.value ∙ (c.in_ok-places.ensures ∙ (λ k. map (λ (task : Task). position (bytes_eq task.id) (c.as_slice.ensures k)) (all k))) in
    let runs : AreAligned dag c.args.report c.intervals.result.now c.in_ok-runs.runs =
    aligned_by_ids c.as_slice-2.result.now c.into_vec.result.items dag c.args.report c.into_vec.ensures are c.intervals.result.now c.in_ok-runs.runs c.in_ok-runs.ensures in
    record {
      version = refl;
      dag_id = refl;
      tasks = c.in_ok-ids_of.ensures ∙ ap (map (λ (task : Task). task.id)) (all ∙ ap (λ (d : Dag). d.tasks) c.dag-dag.ensures.dag);
      runs = subst (λ (d : Dag). AreAligned d c.args.report c.args.runs.now c.in_ok-runs.runs) c.dag-dag.ensures.dag
          (subst (λ (intervals : List Interval). AreAligned dag c.args.report intervals c.in_ok-runs.runs) c.intervals.ensures.intervals runs);
    }
