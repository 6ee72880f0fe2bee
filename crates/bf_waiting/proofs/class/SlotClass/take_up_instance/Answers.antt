use Rattle.std.proofs.Common.{rules, SFits, w64}
use Rattle.std.proofs.lemmas.Int.{to_z-of_z}
use Rattle.bf_waiting.proofs.Taking.{delay_one, none_delayed, take_one}
use Rattle.bf_waiting.proofs.class.SlotClass.take_up_instance.Goals as goal

pub returns-in-Away-clause-delayed : goal.returns-in-Away-clause-delayed
returns-in-Away-clause-delayed c = none_delayed c.args.core.now c.args.run c.args.task c.args.place _ (c.in-Away.ensures {u = tt}).1

pub returns-in-Ready-clause-taken : goal.returns-in-Ready-clause-taken
returns-in-Ready-clause-taken c = take_one c.args.core.now c.args.weights.now c.args.run c.args.task _ _ c.args.place (rw (← c.batch_of_one.ensures) c.add_batch.ensures.gained)

pub returns-in-Delayed-clause-delayed : goal.returns-in-Delayed-clause-delayed
returns-in-Delayed-clause-delayed c =
    let fits : SFits w64 c.in-Delayed.moment = search rules in
    delay_one c.args.core.now c.args.run c.args.task c.args.place c.in-Delayed.moment c.args.self.now.delays.items c.add_delay.new.self.delays.items (c.in-Delayed.ensures {u = tt}).1 (c.in-Delayed.ensures {u = tt}).2
    (rw (to_z-of_z w64 c.in-Delayed.moment fits) at c.add_delay.ensures.gained)
