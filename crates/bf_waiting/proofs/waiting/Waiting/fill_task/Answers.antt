use Rattle.std.proofs.Common.{refl, sym}
use Rattle.bf_waiting.proofs.Each.{got, when_ok}
use Rattle.bf_waiting.proofs.FillFacts.{filled_one}
use Rattle.bf_waiting.proofs.waiting.Waiting.fill_task.Goals as goal

pub returns-in-Some : goal.returns-in-Some
returns-in-Some c =
    let found : _ = (c.in-Some.ensures {u = tt}).some in
    when_ok c.take_up_all.result _ _
    (λ takes. filled_one c.args.core.now c.args.self.now _ c.args.run c.args.task c.in-Some.class c.index_mut-class.result.now c.take_up_all.new.self c.requires.filled found.0 (got _ _ _ found.1 c.index_mut-class.ensures.value) c.take_up_all.ensures.task
    (takes c.args.self.now.class_of.items c.in-Some.class (sym found.0)) refl refl refl)
    (rw c.as_slice.ensures.value at c.take_up_all.ensures.keeps)
