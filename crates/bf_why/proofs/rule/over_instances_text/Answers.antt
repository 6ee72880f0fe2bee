use Rattle.std.proofs.Common.{◌++◌, codes, ap, ◌∙◌}
use Rattle.bf_wording.specs.Numbers.{count_text_of}
use Rattle.bf_why.proofs.rule.over_instances_text.Goals as goal

pub returns : goal.returns
returns c =
    let over = c.in_ok-over.ensures ∙ ap (λ n. count_text_of n (codes "upstream instance")) c.total.ensures in
    c.new.ensures ∙ c.in_ok-format.ensures.ok ∙ (λ i. over i ++ (codes " (" ++ (c.in_ok-counts.ensures i ++ codes ")")))
