use Rattle.std.proofs.Common.{◌≡◌, ◌+◌, take}
use Rattle.std.specs.List.{sum_by}
use Rattle.bf_value.proofs.SizeLemmas.{byte_size}
use Rattle.bf_value.proofs.size.room_after_text.Given as goal

abbrev pub invariant-loop-byte : goal.invariant-loop-byte
invariant-loop-byte l = l.left + (2 + sum_by byte_size (take l.byte-index l.byte-items)) ≡ l.room
