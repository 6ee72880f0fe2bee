-- Branches: which direct downstreams a branch's value follows.
use Rattle.std.specs.Prelude.{ℕ, Bool, false, List, Option, None, Some}
use Rattle.bf_value.specs.declared.xval.Xval.TheVariants.{Text}
use Rattle.bf_graph.specs.Shape.{Shape}
use Rattle.bf_rule.specs.Branches.{followed_at}

-- the same of a branch that names one task or nothing
abbrev pub followed_by_name : Shape → ℕ → ℕ → Option (List ℕ) → Bool
followed_by_name shape branch task None = false
followed_by_name shape branch task (Some name) = followed_at shape branch (Some (Text name)) task
