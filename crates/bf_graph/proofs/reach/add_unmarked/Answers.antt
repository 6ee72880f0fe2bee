use Rattle.std.proofs.Common.{◌<◌, ◌∙◌, length, sym, true, false, arith}
use Rattle.std.proofs.lemmas.List.{get_or_default, length-set}
use Rattle.std.proofs.lemmas.List.Elements.{Contains-get_or}
use Rattle.bf_graph.proofs.ReachingLemmas.{one_marked, one_there, one_added, all_added}
use Rattle.bf_graph.proofs.reach.add_unmarked.Goals as goal
use Rattle.bf_graph.proofs.reach.add_unmarked.Goals.{then-not-index+in_ok-push, else-not-index}

pub index-requires : goal.index-requires
index-requires c =
    let below = c.requires.in_range _ (Contains-get_or c.args.tasks.now c.loop-t.t-index 0 c.loop-t-test.true) in
    let len = c.loop-t.invariant.len in
    omega (arith, below, len)

pub index_mut-requires : goal.index_mut-requires
index_mut-requires c =
    let below = c.requires.in_range _ (Contains-get_or c.args.tasks.now c.loop-t.t-index 0 c.loop-t-test.true) in
    let len = c.loop-t.invariant.len in
    omega (arith, below, len)

pub loop-t-preserved : goal.loop-t-preserved
loop-t-preserved c =
    let k = c.loop-t.invariant in
    let below = c.requires.in_range _ (Contains-get_or c.args.tasks.now c.loop-t.t-index 0 c.loop-t-test.true) in
    let len = k.len in
    let within : _ < length c.loop-t.marks.items = omega (arith, below, len) in
    elim c.if-not-index.branch [
      | then-not-index+in_ok-push w ↦
          let clear = get_or_default c.loop-t.marks.items _ false c.index.result.now within ∙ sym c.index.ensures ∙ w.if-not-index.true in
          rw (w.found-is, w.marks-is, w.in_ok-push.ensures.items) (record {
            len = length-set c.loop-t.marks.items _ true ∙ len;
            marked = one_marked _ _ _ k.marked within clear;
            added = one_added _ _ _ _ k.added c.loop-t-test.true;
          })
      | else-not-index w ↦
          let mark = get_or_default c.loop-t.marks.items _ false c.index.result.now within ∙ sym c.index.ensures ∙ w.if-not-index.false in
          rw (w.found-is, w.marks-is) (record {
            len = k.len;
            marked = k.marked;
            added = one_there _ _ _ _ k.added ((k.marked.marked _).0 mark);
          })
    ]

pub returns-clause-added : goal.returns-clause-added
returns-clause-added c = all_added _ _ _ _ c.loop-t-test.false c.loop-t.invariant.added
