use Rattle.std.proofs.Common.{refl, arith}
use Rattle.std.proofs.lemmas.List.{same_lists, length-map}
use Rattle.bf_report.specs.declared.report.Pull.{Pull}
use Rattle.bf_clear.proofs.tries.are_pulled.Goals as goal

pub returns : goal.returns
returns c =
    let len : _ = length-map c.args.pulls.now (λ (p : Pull). p.value) in
    let same : _ = c.if-pulls-values.false in
    let over : _ = c.loop-i-test.false in
    (λ _. same_lists _ _ (omega (arith, len, same)) (λ k d h. c.loop-i.invariant k d (omega (arith, len, same, over, h))), λ _. refl)
