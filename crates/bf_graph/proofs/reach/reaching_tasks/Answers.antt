use Rattle.std.proofs.Common.{◌<◌, List, ℕ, length, subst, ap, ◌∙◌, arith}
use Rattle.bf_graph.specs.Edges.{lists, upstreams_of}
use Rattle.bf_graph.specs.inner.Cycles.{AreAdded}
use Rattle.bf_graph.proofs.RankLemmas.{upstreams_read, in_range_read}
use Rattle.bf_graph.proofs.ReachingLemmas.{none_marked, direct_found, task_read, one_done, all_reaching, marks_reaching}
use Rattle.bf_graph.proofs.reach.reaching_tasks.Goals as goal

pub add_unmarked-requires-clause-in_range : goal.add_unmarked-requires-clause-in_range
add_unmarked-requires-clause-in_range c =
    in_range_read c.args.edges.now _ c.args.task _ c.requires.in_range c.in_ok-marks.ensures.len (upstreams_read _ _ _ _ c.requires.within c.index-edges-task.is c.as_slice.ensures.value)

pub add_unmarked-requires-clause-marked : goal.add_unmarked-requires-clause-marked
add_unmarked-requires-clause-marked c = rw c.new-found.ensures.items (none_marked _ c.in_ok-marks.ensures.clear)

pub found-init : goal.found-init
found-init c =
    let P : List ℕ → Type 0 = λ xs. AreAdded xs c.as_slice.result.now c.add_unmarked.new.found.items in
    record {
      len = c.in_ok-add_unmarked.ensures.len ∙ c.in_ok-marks.ensures.len;
      marked = c.in_ok-add_unmarked.ensures.marked;
      reached = direct_found _ _ _ _ (upstreams_read _ _ _ _ c.requires.within c.index-edges-task.is c.as_slice.ensures.value) (subst P c.new-found.ensures.items c.in_ok-add_unmarked.ensures.added);
    }

pub bounds-edges-next : goal.bounds-edges-next
bounds-edges-next c =
    let within : c.found.done < length c.found.found.items = omega (arith, c.found-test.true, c.len.ensures) in
    (task_read c.args.edges.now _ _ _ _ c.requires.in_range c.found.invariant.reached within c.index-next.ensures).0

pub add_unmarked-requires-in-found-clause-in_range : goal.add_unmarked-requires-in-found-clause-in_range
add_unmarked-requires-in-found-clause-in_range c =
    let within : c.found.done < length c.found.found.items = omega (arith, c.found-test.true, c.len.ensures) in
    let next = task_read c.args.edges.now _ _ _ _ c.requires.in_range c.found.invariant.reached within c.index-next.ensures in
    in_range_read c.args.edges.now _ c.index-next.result.now _ c.requires.in_range c.found.invariant.len (upstreams_read _ _ _ _ next.0 c.index-edges-next.is c.as_slice-in-found.ensures.value)

pub found-preserved : goal.found-preserved
found-preserved c =
    let within : c.found.done < length c.found.found.items = omega (arith, c.found-test.true, c.len.ensures) in
    let next = task_read c.args.edges.now _ _ _ _ c.requires.in_range c.found.invariant.reached within c.index-next.ensures in
    let read = upstreams_read _ _ _ _ next.0 c.index-edges-next.is c.as_slice-in-found.ensures.value in
    record {
      len = c.in_ok-add_unmarked-2.ensures.len ∙ c.found.invariant.len;
      marked = c.in_ok-add_unmarked-2.ensures.marked;
      reached = one_done _ _ _ _ _ _ within (read ∙ ap (upstreams_of (lists c.args.edges.now)) next.1) c.in_ok-add_unmarked-2.ensures.added c.found.invariant.reached;
    }

pub returns-clause-tasks : goal.returns-clause-tasks
returns-clause-tasks c = all_reaching _ _ _ _ (omega (arith, c.found-test.false, c.len.ensures)) c.found.invariant.reached

pub returns-clause-marks : goal.returns-clause-marks
returns-clause-marks c =
    let all = all_reaching _ _ _ _ (omega (arith, c.found-test.false, c.len.ensures)) c.found.invariant.reached in
    marks_reaching _ _ _ _ _ c.found.invariant.len c.found.invariant.marked all
