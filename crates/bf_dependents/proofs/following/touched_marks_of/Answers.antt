use Rattle.std.proofs.Common.{◌≡◌, ◌<◌, ℕ, [], length, ap, ◌∙◌, sym, subst, arith}
use Rattle.std.proofs.lemmas.List.{get_or_default}
use Rattle.bf_graph.specs.Reach.{row_at}
use Rattle.bf_graph.specs.Shape.{Shape}
use Rattle.bf_plan.specs.declared.plan.Dag.{Dag}
use Rattle.bf_plan.specs.Plans.{shape_of}
use Rattle.bf_dependents.specs.Marks.{marks_before_in}
use Rattle.bf_dependents.specs.inner.Marks.{AreSeeded, AreTouched}
use Rattle.bf_dependents.proofs.RightMarks.{behind_read, made_read, one_row_more}
use Rattle.bf_dependents.proofs.following.touched_marks_of.Goals as goal

pub marks_of-requires-clause-behind : goal.marks_of-requires-clause-behind
marks_of-requires-clause-behind c =
    behind_read _ _ _ _ (ap (λ (s : Shape). s.upstreams) c.graph.ensures ∙ ap (λ (d : Dag). (shape_of d).upstreams) (sym c.dag-in-loop-run.ensures.dag)) c.as_slice-in-loop-run.ensures.value c.in_ok-order.ensures.behind

pub loop-run-preserved : goal.loop-run-preserved
loop-run-preserved c =
    let plan = c.args.plan.now.dag in
    let tasks : c.len.result ≡ length plan.tasks = c.len.ensures ∙ ap (λ (d : Dag). length d.tasks) c.dag.ensures.dag in
    let seeded = subst (λ (n : ℕ). AreSeeded c.args.seeds.now c.args.runs n c.in_ok-seeded.seeded.items) tasks c.in_ok-seeded.ensures in
    let there : c.loop-run.run < length c.in_ok-seeded.seeded.items = let low = c.loop-run-test.true in let len = c.in_ok-seeded.ensures.len in omega (arith, low, len) in
    let row : c.as_slice-seeded.result.now ≡ row_at c.in_ok-seeded.seeded.items c.loop-run.run = c.as_slice-seeded.ensures ∙ (c.index.ensures ∙ get_or_default _ _ _ [] there) in
    let past : c.marks_before-before.result.now ≡ marks_before_in c.loop-run.rows.items c.loop-run.run = c.marks_before-before.ensures ∙ ap (λ rows. marks_before_in rows c.loop-run.run) c.as_slice.ensures.value in
    subst (AreTouched plan c.args.seeds.now _) (sym c.in_ok-push.ensures.items)
    (one_row_more plan c.args.seeds.now c.args.runs c.loop-run.run c.in_ok-seeded.seeded.items c.loop-run.rows.items c.in_ok-marks.marks seeded c.loop-run-test.true c.loop-run.invariant
    (made_read _ plan _ _ _ _ c.in_ok-marks.marks c.dag-in-loop-run.ensures.dag row past c.in_ok-marks.ensures))
