use Rattle.std.proofs.Common.{◌++◌, codes, ap, ◌∙◌}
use Rattle.bf_wording.specs.Numbers.{number_text}
use Rattle.bf_why.proofs.tried.not_allowed_text.Goals as goal

pub returns : goal.returns
returns c =
    let tries = c.in_ok-tries.ensures ∙ ap number_text c.from.ensures in
    let most = c.in_ok-most.ensures ∙ ap number_text c.from-2.ensures in
    c.new.ensures ∙ c.in_ok-text.ensures.ok ∙ (λ i. codes "Its try " ++ (tries i ++ (codes " failed, and this graph allows " ++ (most i ++ codes "."))))
