use Rattle.std.proofs.Common.{ap, ◌∙◌, arith}
use Rattle.std.specs.List.{sum_by}
use Rattle.std.proofs.lemmas.List.{take_all}
use Rattle.std.proofs.lemmas.List.Sums.{sum_by_more_le}
use Rattle.bf_value.specs.Views.{plains_of}
use Rattle.bf_value.proofs.SizeLemmas.{item_size, list_size, room_left, room_short}
use Rattle.bf_value.proofs.size.+room.Goals as goal

pub room_after_list-returns-in_err-room_after : goal.room_after_list-returns-in_err-room_after
room_after_list-returns-in_err-room_after t c =
    let total = list_size _ c.deref-item-items.result.now _ (ap plains_of c.deref-item-items.ensures.value ∙ c.values.view_is) c.deref-item-items.ensures.len c.if-is_empty.ensures in
    let more = sum_by_more_le item_size _ c.loop-item.item-index c.item-item.result c.loop-item-test.true in
    let here = ap item_size c.item-item.is in
    room_short _ _ _ c.from_residual-in_err-room_after.ensures (omega (arith, total, more, here, c.in_err-room_after.ensures, c.loop-item.invariant))

pub room_after_list-returns-in_err-left-2 : goal.room_after_list-returns-in_err-left-2
room_after_list-returns-in_err-left-2 t c =
    let total = list_size _ c.deref-item-items.result.now _ (ap plains_of c.deref-item-items.ensures.value ∙ c.values.view_is) c.deref-item-items.ensures.len c.if-is_empty.ensures in
    let more = sum_by_more_le item_size _ c.loop-item.item-index c.item-item.result c.loop-item-test.true in
    let here = ap item_size c.item-item.is in
    room_short _ _ _ c.from_residual-in_err-left-2.ensures (omega (arith, total, more, here, c.in_ok-room_after.ensures.0, c.in_ok-room_after.ensures.1, c.in_err-left-2.ensures, c.loop-item.invariant))

pub room_after_list-returns : goal.room_after_list-returns
room_after_list-returns t c =
    let total = list_size _ c.deref-item-items.result.now _ (ap plains_of c.deref-item-items.ensures.value ∙ c.values.view_is) c.deref-item-items.ensures.len c.if-is_empty.ensures in
    let all = ap (sum_by item_size) (take_all _ _ c.loop-item-test.false) in
    room_left _ _ _ (omega (arith, total, all, c.loop-item.invariant))
