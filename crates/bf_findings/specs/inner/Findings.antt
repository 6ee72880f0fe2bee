-- What is found wrong with a graph file.
use Rattle.std.specs.Prelude.{ℕ, List, Option, Some, None}
use Rattle.bf_findings.specs.declared.refusal.Refusal.{Refusal}
use Rattle.bf_findings.specs.Findings.{IsAcceptedFile, IsRefusal}

-- why the bytes are refused, or nothing where they are accepted
abbrev pub IsRefusalIfAny : List ℕ → Option (List ℕ) → Option Refusal → Type 0
IsRefusalIfAny graph file None = IsAcceptedFile graph file
IsRefusalIfAny graph file (Some refusal) = IsRefusal graph file refusal
