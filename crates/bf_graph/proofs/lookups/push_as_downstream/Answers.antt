use Rattle.std.proofs.Common.{ℕ, Vec, Global, length, ap, refl, arith}
use Rattle.std.proofs.lemmas.List.{length-map}
use Rattle.std.proofs.lemmas.List.Elements.{Contains-get_or}
use Rattle.bf_graph.proofs.RankLemmas.{upstreams_read, in_range_read}
use Rattle.bf_graph.proofs.LookupLemmas.{adds_start, adds_end, add_read}
use Rattle.bf_graph.proofs.lookups.push_as_downstream.Goals as goal

pub loop-u-init : goal.loop-u-init
loop-u-init c = adds_start _ _ _ c.requires.below

pub index_mut-requires : goal.index_mut-requires
index_mut-requires c =
    let read = upstreams_read c.args.edges.now c.args.task _ _ c.requires.within c.index-edges-task.is c.as_slice-u-items.ensures.value in
    let one = Contains-get_or c.as_slice-u-items.result.now c.loop-u.u-index 0 c.loop-u-test.true in
    let below = in_range_read c.args.edges.now _ c.args.task _ c.requires.in_range refl read _ one in
    let len = c.loop-u.invariant.len in
    omega (arith, below, len, length-map c.args.edges.now (λ (v : Vec ℕ Global). v.items), length-map c.loop-u.found.items (λ (v : Vec ℕ Global). v.items))

pub push_if_absent-requires : goal.push_if_absent-requires
push_if_absent-requires c =
    let read = upstreams_read c.args.edges.now c.args.task _ _ c.requires.within c.index-edges-task.is c.as_slice-u-items.ensures.value in
    let one = Contains-get_or c.as_slice-u-items.result.now c.loop-u.u-index 0 c.loop-u-test.true in
    let below = in_range_read c.args.edges.now _ c.args.task _ c.requires.in_range refl read _ one in
    let list = (add_read c.args.edges.now c.loop-u.found.items _ _ _ _ _ read refl below c.loop-u.invariant c.index_mut.ensures.value).0 in
    record { rising = list.0; last = list.1 }

pub loop-u-preserved : goal.loop-u-preserved
loop-u-preserved c =
    let read = upstreams_read c.args.edges.now c.args.task _ _ c.requires.within c.index-edges-task.is c.as_slice-u-items.ensures.value in
    let one = Contains-get_or c.as_slice-u-items.result.now c.loop-u.u-index 0 c.loop-u-test.true in
    let below = in_range_read c.args.edges.now _ c.args.task _ c.requires.in_range refl read _ one in
    (add_read c.args.edges.now c.loop-u.found.items _ _ _ _ _ read refl below c.loop-u.invariant c.index_mut.ensures.value).1 _ c.in_ok-push_if_absent.ensures

pub returns : goal.returns
returns c =
    let read = upstreams_read c.args.edges.now c.args.task _ _ c.requires.within c.index-edges-task.is c.as_slice-u-items.ensures.value in
    let len = ap length read in
    adds_end _ _ c.loop-u.u-index _ (omega (arith, len, c.loop-u-test.false)) (omega (arith, len, c.loop-u.auto.u-index-end)) c.loop-u.invariant
