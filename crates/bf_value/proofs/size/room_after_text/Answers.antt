use Rattle.std.proofs.Common.{◌≡◌, ◌+◌, length, sym, ap, ◌∙◌, arith}
use Rattle.std.proofs.lemmas.List.{take_all}
use Rattle.std.proofs.lemmas.List.Sums.{sum_by_more_le}
use Rattle.std.specs.List.{sum_by}
use Rattle.json.specs.Print.{quoted}
use Rattle.bf_value.proofs.SizeLemmas.{byte_size, length_quoted, room_left, room_short}
use Rattle.bf_value.proofs.size.room_after_text.Goals as goal

pub returns-in_err-left-2 : goal.returns-in_err-left-2
returns-in_err-left-2 c =
    let bytes = c.as_bytes-byte-items.result.now in
    let total : length (quoted c.args.text.now) ≡ 2 + sum_by byte_size bytes = length_quoted _ ∙ ap (λ s. 2 + sum_by byte_size s) (sym c.as_bytes-byte-items.ensures.value) in
    let more = sum_by_more_le byte_size bytes c.loop-byte.byte-index 0 c.loop-byte-test.true in
    room_short _ _ _ c.from_residual-in_err-left-2.ensures (omega (arith, total, more, c.in_err-left-2.ensures, c.escaped_len.ensures, c.loop-byte.invariant))

pub returns : goal.returns
returns c =
    let bytes = c.as_bytes-byte-items.result.now in
    let total : length (quoted c.args.text.now) ≡ 2 + sum_by byte_size bytes = length_quoted _ ∙ ap (λ s. 2 + sum_by byte_size s) (sym c.as_bytes-byte-items.ensures.value) in
    let all = ap (sum_by byte_size) (take_all _ bytes c.loop-byte-test.false) in
    room_left _ _ _ (omega (arith, total, all, c.loop-byte.invariant))
