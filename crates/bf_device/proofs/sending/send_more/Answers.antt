use Rattle.std.proofs.Common.{arith, ◌∙◌, ap, take, drop, length, ◌-◌, length-drop, length-take}
use Rattle.bf_device.specs.Device.{sent}
use Rattle.bf_device.proofs.Pieces.{took_some, sent_more}
use Rattle.std.proofs.lemmas.List.{take_rest}
use Rattle.bf_device.proofs.sending.send_more.Goals as goal

pub loop-count-preserved-in-Ok : goal.loop-count-preserved-in-Ok
loop-count-preserved-in-Ok g c =
    let (inside, risen, few, out, again, failed) = c.loop-count.invariant in
    let written = c.in-Ok.ensures.written in
    let taken = c.in-Ok.taken-test in
    let f = c.in-Ok.ensures.failures in
    let i = c.in-Ok.ensures.interruptions in
    let s = c.loop-count.count in
    let n = c.in-Ok.taken in
    let bytes = c.args.bytes.now in
    let rest = take_rest bytes s in (
      omega (arith, c.in-Ok.ensures.bound, length-take n (drop s bytes), length-drop s bytes, ap length rest),
      risen,
      few,
      rw rest at written ∙ ap (λ told. sent told (take n (drop s bytes))) out ∙ sent_more _ s n bytes,
      omega arith,
      omega (arith, took_some (take (length bytes - s) (drop s bytes)) n taken.1),
    )
