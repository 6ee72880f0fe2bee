use Rattle.std.proofs.Common.{Some, option_copied, sym, ap, ◌∙◌}
use Rattle.bf_mapped.proofs.FilterLemmas.{one_more, none_more}
use Rattle.bf_core.specs.inner.Words.{pushed_by_one}
use Rattle.bf_core.proofs.pulls.pushed_by_all.Goals as goal
use Rattle.bf_core.proofs.pulls.pushed_by_all.Goals.{in-Some+in_ok-copy+in_ok-push, in_default}

pub loop-instance-preserved : goal.loop-instance-preserved
loop-instance-preserved c = elim c.match-pushed.branch [
  | in-Some+in_ok-copy+in_ok-push w ↦
      ap (λ v. v.items) w.values-is ∙ w.in_ok-push.ensures.items
      ∙ one_more pushed_by_one c.args.instances.now c.loop-instance.instance-index c.instance-item.result _ _ c.loop-instance-test.true c.instance-item.is
      (sym c.pushed.ensures ∙ ap option_copied w.in-Some.is ∙ ap Some (sym w.in_ok-copy.ensures)) c.loop-instance.invariant
  | in_default w ↦
      ap (λ v. v.items) w.values-is ∙ none_more pushed_by_one c.args.instances.now c.loop-instance.instance-index c.instance-item.result _ c.loop-instance-test.true c.instance-item.is
      (sym c.pushed.ensures ∙ ap option_copied w.in_default.is) c.loop-instance.invariant
]
