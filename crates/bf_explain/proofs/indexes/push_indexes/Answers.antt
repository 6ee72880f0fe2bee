use Rattle.std.proofs.Common.{◌++◌, ap, ◌∙◌, string_bytes}
use Rattle.bf_explain.specs.Indexes.{index_text}
use Rattle.bf_explain.proofs.IndexFacts.{one_index_more}
use Rattle.bf_explain.proofs.indexes.push_indexes.Goals as goal

pub loop-index-preserved : goal.loop-index-preserved
loop-index-preserved c =
    let one = index_text c.args.state.now c.args.results.now in
    c.in_ok-push_index.ensures ∙ ap (λ text. text ++ one c.loop-index.index) c.loop-index.invariant
    ∙ one_index_more one (string_bytes c.args.text.now) c.loop-index.index
