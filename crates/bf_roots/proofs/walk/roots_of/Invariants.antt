use Rattle.std.proofs.Common.{◌+◌, ◌*◌, List, ◌++◌, length, reverse}
use Rattle.bf_roots.specs.declared.step.Root.{Root}
use Rattle.bf_roots.specs.inner.Showing.{IsShowing}
use Rattle.bf_roots.specs.Walks.{AreRootsOf, Walk}
use Rattle.bf_roots.proofs.SeenFacts.{unseen_in}
use Rattle.bf_roots.proofs.walk.roots_of.Given as goal

abbrev pub invariant-loop-step : goal.invariant-loop-step
invariant-loop-step l = record {
  goes : (rest : List Root) → Walk l.plan.dag l.report l.trail.seen.items (reverse l.trail.left.items) rest → AreRootsOf l.plan.dag l.report l.run l.task (l.trail.found.items ++ rest);
  shows : IsShowing l.report l.window;
}

abbrev pub decreases-loop-step : goal.decreases-loop-step
decreases-loop-step l = 20_001 * unseen_in l.trail.seen.items + length l.trail.left.items
