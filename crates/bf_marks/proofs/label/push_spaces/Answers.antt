use Rattle.std.proofs.Common.{◌++◌, ◌∷◌, [], replicate, ap, ◌∙◌, append_assoc}
use Rattle.std.proofs.lemmas.List.{replicate_more}
use Rattle.bf_marks.proofs.label.push_spaces.Goals as goal

pub loop-preserved : goal.loop-preserved
loop-preserved c =
    let before = c.args.text.now.items in
    let n = c.loop.counter in
    c.in_ok-push.ensures.items ∙ ap (λ xs. xs ++ 32 ∷ []) c.loop.invariant ∙ append_assoc before (replicate n 32) (32 ∷ []) ∙ ap (λ s. before ++ s) (replicate_more n 32)
