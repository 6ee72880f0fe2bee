use Rattle.std.proofs.Common.{◌≡◌, ◌+◌, take}
use Rattle.std.specs.List.{sum_by}
use Rattle.bf_value.proofs.SizeLemmas.{item_size}
use Rattle.bf_value.proofs.size.+room.Given as goal

abbrev pub invariant-room_after_list-loop-item : goal.invariant-room_after_list-loop-item
invariant-room_after_list-loop-item l = l.left + (1 + sum_by item_size (take l.item-index l.item-items)) ≡ l.room
