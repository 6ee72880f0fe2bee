use Rattle.std.proofs.Common.{ℕ, List, ◌++◌, drop}
use Rattle.bf_explain.specs.Clearing.{AreClearSections}
use Rattle.bf_explain.proofs.clearing.clear_sections.Given as goal

abbrev pub invariant-loop-place : goal.invariant-loop-place
invariant-loop-place l =
    (rest : List (List ℕ)) → AreClearSections l.paths l.plan.dag l.report l.run l.task (drop l.place-index l.places) rest →
    AreClearSections l.paths l.plan.dag l.report l.run l.task l.places (l.lines.items ++ rest)
