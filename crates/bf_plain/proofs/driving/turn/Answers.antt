use Rattle.std.proofs.Common.{◌≡◌, Bool, false, true, of_z, subst, to_z, w64}
use Rattle.bf_core.specs.Events.{HasEnded}
use Rattle.bf_sched.specs.declared.next.Next.{Next}
use Rattle.bf_sched.specs.Scheduling.{HasBegun, HasStepped, HasTicked, IsNext, WaitsUntil}
use Rattle.bf_sched.proofs.Driving.{begun_driven, same_driven, stays_driven, stepped_driven, ticked_driven}
use Rattle.bf_plain.proofs.Ticking.{begun_so, same_so, stepped_so, then_so, until_so}
use Rattle.bf_sched.proofs.Answering.{begun_under_way}
use Rattle.bf_plain.proofs.Turning.{made_idle, read_as, stepped_idle, until_comes, until_idle}
use Rattle.bf_plain.proofs.driving.turn.Goals as goal

pub make_try-requires : goal.make_try-requires
make_try-requires g c =
    let begun : HasBegun c.args.scheduler.now c.in-Go.ticket c.next.new.self = subst (λ (n : Next). IsNext c.args.scheduler.now n c.next.new.self) c.in-Go.is c.in_ok-next.ensures.ok in
    begun_under_way c.args.scheduler.now c.next.new.self c.in-Go.ticket begun

pub unreachable-requires : goal.unreachable-requires
unreachable-requires g c =
    let until : WaitsUntil c.args.scheduler.now c.in-Until.moment c.next.new.self = subst (λ (n : Next). IsNext c.args.scheduler.now n c.next.new.self) c.in-Until.is c.in_ok-next.ensures.ok in
    let ticked : HasTicked c.next.new.self c.in-Until.moment false c.tick.new.self = read_as c.args.scheduler.now c.next.new.self c.tick.new.self c.in-Until.moment false c.journal-replayed.ensures.replayed until (subst (λ (b : Bool). HasTicked c.next.new.self (to_z w64 (of_z w64 c.in-Until.moment)) b c.tick.new.self) c.if-not-branch.true c.in_ok-tick-in-Until.ensures.ok) in
    until_comes c.args.scheduler.now c.next.new.self c.tick.new.self c.in-Until.moment c.journal-replayed.ensures.replayed until ticked

pub returns-in-Stepped-clause-idle : goal.returns-in-Stepped-clause-idle
returns-in-Stepped-clause-idle g c =
    let stepped : HasStepped c.args.scheduler.now c.next.new.self = subst (λ (n : Next). IsNext c.args.scheduler.now n c.next.new.self) c.in-Stepped.is c.in_ok-next.ensures.ok in
    stepped_idle c.args.scheduler.now c.next.new.self c.journal-replayed.ensures.replayed stepped c.requires

pub returns-in-Stepped-clause-driven : goal.returns-in-Stepped-clause-driven
returns-in-Stepped-clause-driven g c =
    let stepped : HasStepped c.args.scheduler.now c.next.new.self = subst (λ (n : Next). IsNext c.args.scheduler.now n c.next.new.self) c.in-Stepped.is c.in_ok-next.ensures.ok in
    stepped_driven _ c.args.scheduler.now c.next.new.self stepped

pub returns-in_ok-make_try-in-Go-clause-idle : goal.returns-in_ok-make_try-in-Go-clause-idle
returns-in_ok-make_try-in-Go-clause-idle g c =
    let begun : HasBegun c.args.scheduler.now c.in-Go.ticket c.next.new.self = subst (λ (n : Next). IsNext c.args.scheduler.now n c.next.new.self) c.in-Go.is c.in_ok-next.ensures.ok in
    made_idle c.args.scheduler.now c.next.new.self c.make_try.new.scheduler c.in-Go.ticket c.journal-replayed.ensures.replayed begun c.requires c.in_ok-make_try-in-Go.ensures.counted

pub returns-in_ok-make_try-in-Go-clause-driven : goal.returns-in_ok-make_try-in-Go-clause-driven
returns-in_ok-make_try-in-Go-clause-driven g c =
    let begun : HasBegun c.args.scheduler.now c.in-Go.ticket c.next.new.self = subst (λ (n : Next). IsNext c.args.scheduler.now n c.next.new.self) c.in-Go.is c.in_ok-next.ensures.ok in
    stays_driven _ c.args.scheduler.now c.next.new.self c.make_try.new.scheduler (begun_driven _ c.args.scheduler.now c.next.new.self c.in-Go.ticket begun) c.in_ok-make_try-in-Go.ensures.driven

pub returns-else-not-branch-clause-idle : goal.returns-else-not-branch-clause-idle
returns-else-not-branch-clause-idle g c =
    let until : WaitsUntil c.args.scheduler.now c.in-Until.moment c.next.new.self = subst (λ (n : Next). IsNext c.args.scheduler.now n c.next.new.self) c.in-Until.is c.in_ok-next.ensures.ok in
    let ticked : HasTicked c.next.new.self c.in-Until.moment true c.tick.new.self = read_as c.args.scheduler.now c.next.new.self c.tick.new.self c.in-Until.moment true c.journal-replayed.ensures.replayed until (subst (λ (b : Bool). HasTicked c.next.new.self (to_z w64 (of_z w64 c.in-Until.moment)) b c.tick.new.self) c.if-not-branch.false c.in_ok-tick-in-Until.ensures.ok) in
    until_idle c.args.scheduler.now c.next.new.self c.tick.new.self c.in-Until.moment c.journal-replayed.ensures.replayed until ticked c.requires

pub returns-else-not-branch-clause-driven : goal.returns-else-not-branch-clause-driven
returns-else-not-branch-clause-driven g c =
    let until : WaitsUntil c.args.scheduler.now c.in-Until.moment c.next.new.self = subst (λ (n : Next). IsNext c.args.scheduler.now n c.next.new.self) c.in-Until.is c.in_ok-next.ensures.ok in
    let ticked : HasTicked c.next.new.self c.in-Until.moment true c.tick.new.self = read_as c.args.scheduler.now c.next.new.self c.tick.new.self c.in-Until.moment true c.journal-replayed.ensures.replayed until (subst (λ (b : Bool). HasTicked c.next.new.self (to_z w64 (of_z w64 c.in-Until.moment)) b c.tick.new.self) c.if-not-branch.false c.in_ok-tick-in-Until.ensures.ok) in
    stays_driven _ c.args.scheduler.now c.next.new.self c.tick.new.self (same_driven _ c.args.scheduler.now c.next.new.self until.new_is) (ticked_driven _ c.next.new.self c.tick.new.self c.in-Until.moment true ticked)

pub returns-in-Stepped-clause-ticks : goal.returns-in-Stepped-clause-ticks
returns-in-Stepped-clause-ticks g c =
    let stepped : HasStepped c.args.scheduler.now c.next.new.self = subst (λ (n : Next). IsNext c.args.scheduler.now n c.next.new.self) c.in-Stepped.is c.in_ok-next.ensures.ok in
    stepped_so c.args.scheduler.now c.next.new.self stepped

pub returns-in_ok-make_try-in-Go-clause-ticks : goal.returns-in_ok-make_try-in-Go-clause-ticks
returns-in_ok-make_try-in-Go-clause-ticks g c =
    let begun : HasBegun c.args.scheduler.now c.in-Go.ticket c.next.new.self = subst (λ (n : Next). IsNext c.args.scheduler.now n c.next.new.self) c.in-Go.is c.in_ok-next.ensures.ok in
    then_so c.args.scheduler.now c.next.new.self c.make_try.new.scheduler (begun_so c.args.scheduler.now c.next.new.self c.in-Go.ticket begun) c.in_ok-make_try-in-Go.ensures.ticks

pub returns-else-not-branch-clause-ticks : goal.returns-else-not-branch-clause-ticks
returns-else-not-branch-clause-ticks g c =
    let until : WaitsUntil c.args.scheduler.now c.in-Until.moment c.next.new.self = subst (λ (n : Next). IsNext c.args.scheduler.now n c.next.new.self) c.in-Until.is c.in_ok-next.ensures.ok in
    let ticked : HasTicked c.next.new.self c.in-Until.moment true c.tick.new.self = read_as c.args.scheduler.now c.next.new.self c.tick.new.self c.in-Until.moment true c.journal-replayed.ensures.replayed until (subst (λ (b : Bool). HasTicked c.next.new.self (to_z w64 (of_z w64 c.in-Until.moment)) b c.tick.new.self) c.if-not-branch.false c.in_ok-tick-in-Until.ensures.ok) in
    until_so c.args.scheduler.now c.next.new.self c.tick.new.self c.in-Until.moment c.journal-replayed.ensures.replayed until ticked

pub returns-in-Ended-clause-ticks : goal.returns-in-Ended-clause-ticks
returns-in-Ended-clause-ticks g c =
    let ended : HasEnded c.args.scheduler.now.backfill.state × (c.next.new.self ≡ c.args.scheduler.now) = subst (λ (n : Next). IsNext c.args.scheduler.now n c.next.new.self) c.in-Ended.is c.in_ok-next.ensures.ok in
    same_so c.args.scheduler.now c.next.new.self ended.1
