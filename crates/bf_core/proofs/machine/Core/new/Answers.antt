use Rattle.std.proofs.Common.{◌≡◌, pos, length, ap, ◌∙◌}
use Rattle.bf_core.specs.Terms.{Dag}
use Rattle.bf_core.specs.Events.{empty_runs_of}
use Rattle.bf_core.proofs.Starting.{core_opening}
use Rattle.bf_core.proofs.machine.Core.new.Goals as goal

pub invariant_of-result : goal.invariant_of-result
invariant_of-result g c =
    let tasks : c.len.result ≡ length c.args.plan.now.dag.tasks = c.len.ensures ∙ ap (λ (d : Dag). length d.tasks) c.dag.ensures.dag in
    core_opening c.args.plan.now.dag c.args.plan.now.limits _ c.in_ok-cells.cells c.new-2.result _ c.new-4.result.items c.in_ok-pools.pools _
    c.dag.ensures.sound c.limits-fit.ensures.fit c.count-count.ensures.few
    (c.in_ok-cells.ensures ∙ ap (λ n. empty_runs_of n c.count-count.result) tasks)
    c.new-2.ensures (λ i. record { time = pos 0; moments = c.new-3.ensures i }) c.new-4.ensures.items c.in_ok-pools.ensures.sizes c.in_ok-pools.ensures.free
    c.in_ok-run_states.ensures.len
