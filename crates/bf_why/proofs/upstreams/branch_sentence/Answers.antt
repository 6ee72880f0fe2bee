use Rattle.std.proofs.Common.{◌++◌, codes, ap, ◌∙◌}
use Rattle.bf_why.specs.Decided.{id_of}
use Rattle.bf_wording.specs.Values.{value_text_of}
use Rattle.bf_why.proofs.upstreams.branch_sentence.Goals as goal

pub returns : goal.returns
returns c =
    let id = c.id_of-id.ensures ∙ ap (λ dag. id_of dag c.args.branch) c.dag.ensures.dag in
    let value = c.in_ok-value.ensures ∙ ap (value_text_of 200) c.first_pushed_by.ensures in
    c.new.ensures ∙ c.in_ok-text.ensures.ok ∙ (λ i. codes "The branch " ++ (id i ++ (codes " succeeded and doesn't follow it: it pushed " ++ (value i ++ codes "."))))
