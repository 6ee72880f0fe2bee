use Rattle.std.proofs.Common.{◌++◌, ◌+◌, ◌%◌, ◌^◌, ℕ, List, arith, sym, subst}
use Rattle.std.proofs.lemmas.List.{take_rest}
use Rattle.bf_page.specs.inner.Pieces.{whole, behind}
use Rattle.bf_page.proofs.SendingFacts.{HasGoneOut, more_out, took_some}
use Rattle.bf_page.proofs.sending.send_pieces.Goals as goal

pub loop-rest-preserved-in-Ok : goal.loop-rest-preserved-in-Ok
loop-rest-preserved-in-Ok g c =
    let (so_far, few, again, failed) = c.loop-rest.invariant in
    let front = c.loop-rest.rest.front.now in
    let n = c.in-Ok.count in
    let rest = behind c.loop-rest.rest.told.now c.loop-rest.rest.pieces.now c.loop-rest.rest.last.now in
    let text = whole c.args.pieces.now c.args.last.now in
    let before = g.W.Write.written c.args.out.now in
    let after = g.W.Write.written c.write.new.self in
    let more = more_out text front rest n c.loop-rest.sent before (g.W.Write.written c.loop-rest.out) after so_far c.in-Ok.ensures.written c.in-Ok.ensures.bound in
    let i = c.in-Ok.ensures.interruptions in
    let f = c.in-Ok.ensures.failures in (
      subst (λ (s : List ℕ). HasGoneOut text (s ++ rest) ((c.loop-rest.sent + n) % 2 ^ 64) before after) (sym (take_rest front n)) more,
      few,
      omega arith,
      omega (arith, took_some front n c.in-Ok.count-test.1),
    )
