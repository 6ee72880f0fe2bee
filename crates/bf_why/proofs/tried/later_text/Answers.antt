use Rattle.std.proofs.Common.{◌++◌, codes, ap, ◌∙◌}
use Rattle.bf_wording.specs.Numbers.{number_text}
use Rattle.bf_why.proofs.tried.later_text.Goals as goal

pub returns : goal.returns
returns c =
    let before = c.in_ok-before.ensures ∙ ap number_text (c.from.ensures ∙ c.saturating_sub.ensures) in
    let tries = c.in_ok-tries.ensures ∙ ap number_text c.from-2.ensures in
    c.new.ensures ∙ c.in_ok-text.ensures.ok ∙ (λ i. codes "Its try " ++ (tries i ++ (codes " succeeded, behind " ++ (before i ++ codes " that failed."))))
