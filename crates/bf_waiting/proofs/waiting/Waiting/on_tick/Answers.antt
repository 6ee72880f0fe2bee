use Rattle.std.proofs.Common.{◌≡◌, ℕ, List, length, slice_get, Some, ap, subst, sym, ◌∙◌, w64, arith}
use Rattle.std.proofs.lemmas.Int.{to_z-of_z}
use Rattle.bf_core.specs.declared.event.Event.{Event}
use Rattle.bf_waiting.specs.Classes.{Waits}
use Rattle.bf_waiting.specs.inner.Keeping.{KeepsOver}
use Rattle.bf_waiting.proofs.Each.{AreEachKept, AreKeptTo, each_kept, got, one_more, ticked_over, whole}
use Rattle.bf_waiting.proofs.waiting.Waiting.on_tick.Goals as goal

pub loop-class-preserved : goal.loop-class-preserved
loop-class-preserved c =
    let there : slice_get c.loop-class.class-items c.loop-class.class-index ≡ Some c.class-item.result =
    got c.loop-class.class-items c.loop-class.class-index c.class-item.result (omega (arith, c.loop-class-test.true, c.loop-class.auto.class-items)) c.class-item.is in
    let keeps : (class_of : List ℕ) → KeepsOver (Event.Tick c.args.now) c.args.core.now c.args.self.now.weights.items class_of c.loop-class.class-index c.class-item.result c.on_tick.new.self =
    λ class_of. subst (λ (w : Waits). KeepsOver (Event.Tick c.args.now) c.args.core.now c.args.self.now.weights.items class_of c.loop-class.class-index w c.on_tick.new.self) (sym c.class-item.is)
    (rw (c.as_slice.ensures.value, to_z-of_z w64 c.args.now c.ranges.now) at (c.on_tick.ensures.keeps class_of c.loop-class.class-index)) in
    one_more _ c.args.core.now c.args.self.now.weights.items c.loop-class.class-index c.deref_mut-class-items.result.now c.loop-class.class-items c.class-item.result c.on_tick.new.self c.loop-class.invariant there
    (subst (λ (w : Waits). c.on_tick.new.self.task ≡ w.task) (sym c.class-item.is) c.on_tick.ensures.task)
    (rw (to_z-of_z w64 c.args.now c.ranges.now) keeps)

pub returns : goal.returns
returns c = λ b able at kept.
    let same : c.deref_mut-class-items.result.now ≡ c.args.self.now.classes.items = c.deref_mut-class-items.ensures.value in
    let count : length c.loop-class.class-items ≡ length c.args.self.now.classes.items = c.loop-class.auto.class-items ∙ ap length same in
    let is_len : length c.args.self.now.classes.items ≡ c.args.self.now.classes.len = sym (ap length same) ∙ c.deref_mut-class-items.ensures.len in
    let kept_to : AreKeptTo (Event.Tick c.args.now) c.args.core.now c.args.self.now.weights.items c.loop-class.class-index c.args.self.now.classes.items c.loop-class.class-items =
    rw (to_z-of_z w64 c.args.now c.ranges.now, same) at c.loop-class.invariant in
    let each : AreEachKept (Event.Tick c.args.now) c.args.core.now c.args.self.now.weights.items c.args.self.now.classes.items c.loop-class.class-items =
    each_kept _ _ _ c.loop-class.class-index _ _ kept_to (omega (arith, c.loop-class-test.false, ap length same)) in
    rw (whole c.args.self.now.classes.len c.loop-class.class-items c.args.self.now.classes.items (count ∙ is_len) is_len)
    (ticked_over c.args.self.now.weights.items c.args.self.now.class_of.items c.args.self.now.classes.items c.loop-class.class-items c.args.core.now c.args.now count each b able at kept)
