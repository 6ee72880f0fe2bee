use Rattle.bf_waiting.proofs.Each.{got, one_alike, room_there, when_ok}
use Rattle.bf_waiting.proofs.waiting.Waiting.make_room_of.Goals as goal

pub returns-in-Some-clause-kept : goal.returns-in-Some-clause-kept
returns-in-Some-clause-kept c = λ b kept.
    let found : _ = (c.in-Some.ensures {u = tt}).some in
    one_alike b c.args.self.now.weights.items c.args.self.now.class_of.items c.args.self.now.classes.items c.in-Some.class c.index_mut-class.result.now c.make_room.new.self (got _ _ _ found.1 c.index_mut-class.ensures.value)
    c.make_room.ensures.task c.make_room.ensures.batches c.make_room.ensures.delays kept

pub returns-in-Some-clause-room : goal.returns-in-Some-clause-room
returns-in-Some-clause-room c =
    let found : _ = (c.in-Some.ensures {u = tt}).some in
    when_ok c.make_room.result _ _
    (λ room within. room_there c.args.self.now.classes.items c.args.self.now.class_of.items c.args.task c.in-Some.class c.index_mut-class.result.now c.make_room.new.self (got _ _ _ found.1 c.index_mut-class.ensures.value) found.0 room)
    c.make_room.ensures.room
