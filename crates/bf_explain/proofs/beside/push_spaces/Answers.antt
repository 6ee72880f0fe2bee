use Rattle.std.proofs.Common.{ℕ, List, [], ◌∷◌, ◌++◌, ap, ◌∙◌, string_bytes}
use Rattle.bf_explain.proofs.BesideFacts.{one_more}
use Rattle.bf_explain.proofs.beside.push_spaces.Goals as goal

pub loop-preserved : goal.loop-preserved
loop-preserved c =
    c.in_ok-push_str.ensures.bytes ∙ ap (λ (text : List ℕ). text ++ 32 ∷ []) c.loop.invariant ∙ one_more (string_bytes c.args.text.now) c.loop.counter
