use Rattle.std.proofs.Common.{ℕ, Vec, Global, sym, ◌∙◌, arith}
use Rattle.std.proofs.lemmas.List.{length-map}
use Rattle.bf_graph.proofs.LookupLemmas.{no_downstreams, all_downstreams}
use Rattle.bf_graph.proofs.lookups.downstreams_of.Goals as goal

pub loop-t-init : goal.loop-t-init
loop-t-init c = no_downstreams _ _ (c.in_ok-found.ensures.len ∙ sym (length-map c.args.edges.now (λ (v : Vec ℕ Global). v.items))) c.in_ok-found.ensures.empty

pub returns : goal.returns
returns c =
    let all = length-map c.args.edges.now (λ (v : Vec ℕ Global). v.items) in
    all_downstreams _ c.loop-t.t _ (omega (arith, all, c.loop-t-test.false)) c.loop-t.invariant
