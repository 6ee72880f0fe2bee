use Rattle.std.proofs.Common.{ℕ, sym, subst, arith}
use Rattle.bf_core.specs.Cores.{MayCome, deciding}
use Rattle.bf_rescan.proofs.Firsts.{stands_first, has_place, decided_there}
use Rattle.bf_rescan.proofs.steps.first_decidable_task.Goals as goal

pub returns-then-may_decide-clause-first : goal.returns-then-may_decide-clause-first
returns-then-may_decide-clause-first c = λ u able.
    stands_first c.args.core.now.dag c.args.order.now c.requires c.loop-task.task-index c.loop-task-test.true u (decided_there c.args.core.now c.args.expands c.args.run u able).1
    (λ j l same. c.loop-task.invariant j l (subst (λ (t : ℕ). MayCome c.args.core.now (deciding c.args.expands c.args.run t)) (sym same) able))

pub returns-clause-none : goal.returns-clause-none
returns-clause-none c = λ u able.
    let at : _ = has_place c.args.core.now.dag c.args.order.now c.requires u (decided_there c.args.core.now c.args.expands c.args.run u able).1 in
    c.loop-task.invariant at.0 (omega (arith, at.1, c.loop-task-test.false)) (subst (λ (t : ℕ). MayCome c.args.core.now (deciding c.args.expands c.args.run t)) (sym at.2) able)
