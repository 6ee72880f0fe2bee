use Rattle.std.proofs.Common.{inl, inr, sym, ◌∙◌}
use Rattle.bf_program.proofs.Ends.{done_code, refused_at, tells_three}
use Rattle.bf_program.proofs.program.answer.Goals as goal

pub returns-in-Ok-clause-done : goal.returns-in-Ok-clause-done
returns-in-Ok-clause-done g c = λ none low. done_code _ _ _ _ _ _ _ _ c.in-Ok.status _ c.code.ensures low (c.in-Ok.ensures.done none)

pub returns-in-Ok-clause-why : goal.returns-in-Ok-clause-why
returns-in-Ok-clause-why g c = λ none two.
    let refused = refused_at _ c.in-Ok.status _ c.code.ensures two c.in-Ok.ensures.range (c.in-Ok.ensures.overwriting none) in
    inl (refused.0, refused.1.0, refused.1.1)

pub returns-in-Err-clause-why : goal.returns-in-Err-clause-why
returns-in-Err-clause-why g c = λ none two.
    let tells : _ = rw c.in-Err.ensures.untouched at c.tell_fault.ensures.tells in
    inr (c.in-Err.fault, c.in-Err.ensures.why none, rw c.code-in-Err.ensures tells)

pub returns-in-Err-clause-unshown : goal.returns-in-Err-clause-unshown
returns-in-Err-clause-unshown g c = λ wrong three.
    let tells : _ = rw c.in-Err.ensures.untouched at c.tell_fault.ensures.tells in
    (c.in-Err.fault, c.in-Err.ensures.unshown wrong, rw c.code-in-Err.ensures tells)

pub returns-in-Err-clause-fault : goal.returns-in-Err-clause-fault
returns-in-Err-clause-fault g c = λ three.
    let tells : _ = rw c.in-Err.ensures.untouched at c.tell_fault.ensures.tells in
    tells_three _ _ _ c.in-Err.fault _ tells (sym c.code-in-Err.ensures ∙ three)
