use Rattle.std.proofs.Common.{rules, SFits, w64}
use Rattle.std.proofs.lemmas.Int.{to_z-of_z}
use Rattle.bf_waiting.proofs.Taking.{delay_one, none_delayed, not_delayed}
use Rattle.bf_waiting.proofs.class.SlotClass.delay_instance.Goals as goal

pub returns-in-Delayed-clause-delayed : goal.returns-in-Delayed-clause-delayed
returns-in-Delayed-clause-delayed c =
    let fits : SFits w64 c.in-Delayed.moment = search rules in
    delay_one c.args.core.now c.args.run c.args.task c.args.place c.in-Delayed.moment c.args.self.now.delays.items c.add_delay.new.self.delays.items (c.in-Delayed.ensures {u = tt}).1 (c.in-Delayed.ensures {u = tt}).2
    (rw (to_z-of_z w64 c.in-Delayed.moment fits, c.make_room.ensures.delays) at c.add_delay.ensures.gained)

pub returns-in_default : goal.returns-in_default
returns-in_default c = record {
  task = c.make_room.ensures.task;
  batches = c.make_room.ensures.batches;
  delayed = rw c.make_room.ensures.delays (none_delayed c.args.core.now c.args.run c.args.task c.args.place c.args.self.now.delays.items (not_delayed c.args.core.now c.args.run c.args.task c.args.place c.standing_at.result c.standing_at.ensures c.in_default.not-Delayed));
}
