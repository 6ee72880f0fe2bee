use Rattle.std.proofs.Common.{◌≡◌, refl, subst, arith, rules, w64, SFits}
use Rattle.std.proofs.lemmas.Int.{to_z-of_z}
use Rattle.bf_core.specs.Cores.{Backfill, GoesOn}
use Rattle.bf_core.specs.Running.{running_now}
use Rattle.bf_sched.proofs.Keeping.{step_keeps, begin_keeps, has_ended, nothing_comes}
use Rattle.bf_sched.proofs.scheduler.Scheduler.next.Goals as goal
use Rattle.bf_sched.proofs.scheduler.Scheduler.next.Goals.{then-self-count+in_default-next_try, else-self-count}

pub invariant_of-self-in-Some : goal.invariant_of-self-in-Some
invariant_of-self-in-Some c =
    step_keeps c.self.inside.ready c.apply_allowed.new.ready c.self.inside.workers c.self.inside.running c.in-Some.event c.journal-replayed.ensures.replayed c.self.invariant (c.in-Some.ensures {u = tt}) c.in_ok-apply_allowed.ensures.ok

pub invariant_of-self-in-Some-next_try : goal.invariant_of-self-in-Some-next_try
invariant_of-self-in-Some-next_try c =
    begin_keeps c.self.inside.ready c.begin.new.ready c.self.inside.workers c.self.inside.running c.in-Some-next_try.name c.journal-replayed.ensures.replayed c.self.invariant (c.in-Some-next_try.ensures {u = tt}).may_begin (omega (arith, c.if-self-count.true, c.count.ensures.count)) c.in_ok-ticket.ensures.ok

pub returns-in-Some-next_moment-clause-ok : goal.returns-in-Some-next_moment-clause-ok
returns-in-Some-next_moment-clause-ok c =
    let idle : running_now c.self.inside.ready.state ≡ 0 = omega (arith, c.self.invariant.counted, c.if-self-gt0.false) in
    let fits : SFits w64 c.in-Some-next_moment.moment = search rules in
    rw (to_z-of_z w64 c.in-Some-next_moment.moment fits) (
    rw (← c.self.view_is) (record {
      idle = idle;
      none_comes = nothing_comes c.self.inside.ready idle (c.in_default.ensures {u = tt}) (elim c.if-self-count.branch [ then-self-count+in_default-next_try w ↦ w.in_default-next_try.ensures {u = tt} | else-self-count w ↦ absurd (omega (arith, w.if-self-count.false, c.count.ensures.some, c.self.invariant.counted, idle)) ]);
      is_first = c.in-Some-next_moment.ensures {u = tt};
      new_is = refl;
    })
    )

pub returns-clause-ok : goal.returns-clause-ok
returns-clause-ok c =
    let idle : running_now c.self.inside.ready.state ≡ 0 = omega (arith, c.self.invariant.counted, c.if-self-gt0.false) in
    rw (← c.self.view_is) (
      has_ended c.self.inside.ready (subst (λ (b : Backfill). running_now b.state ≡ 0 → GoesOn b) c.core.ensures c.never_stuck.ensures idle) idle (c.in_default.ensures {u = tt})
          (elim c.if-self-count.branch [ then-self-count+in_default-next_try w ↦ w.in_default-next_try.ensures {u = tt} | else-self-count w ↦ absurd (omega (arith, w.if-self-count.false, c.count.ensures.some, c.self.invariant.counted, idle)) ])
          (c.in_default-next_moment.ensures {u = tt}),
      refl,
    )
