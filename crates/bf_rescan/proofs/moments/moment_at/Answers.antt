use Rattle.std.proofs.Common.{◌≡◌, ap, ◌∙◌, rules}
use Rattle.bf_plan.specs.declared.plan.Dag.{Dag}
use Rattle.bf_try.specs.Tries.{name_of}
use Rattle.bf_core.specs.declared.state.Phase.{Phase}
use Rattle.bf_rescan.proofs.Soonest.{said}
use Rattle.bf_rescan.proofs.moments.moment_at.Goals as goal
use Rattle.bf_rescan.proofs.moments.moment_at.Goals.{in-Waiting, in_default}

pub returns : goal.returns
returns c =
    let waits : c.args.instance.now.phase ≡ Phase.Waiting = elim c.match-matches.branch [ in-Waiting w ↦ search rules | in_default w ↦ search rules ] in
    said c.args.core.now c.journal-replayed.ensures.replayed c.args.run c.args.task c.args.place c.args.instance.now c.requires.held c.name_of.result c.later_moment_of.result
    (c.name_of.ensures ∙ ap (λ (d : Dag). name_of d c.args.run c.args.task c.args.place c.args.instance.now.attempt) (c.dag.ensures.dag ∙ c.plan.ensures.dag)) waits c.later_moment_of.ensures.moment c.later_moment_of.ensures.may_come c.later_moment_of.ensures.none
