-- What is told behind a refusal, where that is asked for.
use Rattle.std.specs.Prelude.{◌≡◌, ◌⊎◌, ℕ, Bool, true, false, List, [], ◌∷◌, ◌++◌, Option}
use Rattle.std.specs.List.{flat_map}
use Rattle.bf_findings.specs.declared.finding.Finding.{Finding}
use Rattle.bf_findings.specs.Findings.{AreFindings}
use Rattle.bf_findings.specs.Texts.{finding_text}
use Rattle.bf_quoted.specs.Values.{shown}
use Rattle.bf_command_line.specs.declared.forms.Asked.{Asked}
use Rattle.bf_command_line.specs.declared.forms.Asked.TheVariants.{Check}
use Rattle.bf_command_line.specs.declared.forms.GraphAsked.{GraphAsked}
use Rattle.bf_command_fault.specs.declared.fault.CommandFault.{CommandFault}
use Rattle.bf_disk.specs.Files.{Files}
use Rattle.bf_input.specs.Inputs.{OfFiles, IsReadGraph, IsReadingFault, MeanAlike, graph_paths}
use Rattle.bf_program.specs.CommandFaults.{IsTold, MayTell}

-- with the escapes of what a terminal doesn't show as itself
abbrev pub finding_line : Finding → List ℕ
finding_line finding = shown (finding_text finding) ++ 10 ∷ []

abbrev pub findings_text : List Finding → List ℕ
findings_text found = flat_map finding_line found

-- the lines of what is found wrong with the bytes that are read of the graph file, with a zone file that means the same
pub record IsExplanation (graph : List ℕ) (zone : Option (List ℕ)) (text : List ℕ) : Type 0 where
  pub read : List ℕ
  pub is_read : IsReadGraph graph read
  pub read_zone : Option (List ℕ)
  pub means : MeanAlike read_zone zone
  pub found : List Finding
  pub are_found : AreFindings read read_zone found
  pub text_is : text ≡ findings_text found

-- the lines of what is found in the files are told, or why they can't be: a file that can't be read a second time, or want of memory
abbrev pub IsExplainedBy : Files → GraphAsked → Type 0 → Option (List ℕ) → Option (List ℕ) → Type 0
IsExplainedBy files asked Halted before after =
    ((text : List ℕ) × OfFiles files asked (λ graph zone. IsExplanation graph zone text)
    × IsTold Halted before after text)
    ⊎ ((fault : CommandFault) × IsReadingFault files (graph_paths asked) fault
    × (code : ℕ) × MayTell Halted before after fault code)

-- that is told where it is asked for; else nothing is
abbrev pub IsExplainedIf : Bool → Files → GraphAsked → Type 0 → Option (List ℕ) → Option (List ℕ)
    → Type 0
IsExplainedIf true files asked Halted before after = IsExplainedBy files asked Halted before after
IsExplainedIf false files asked Halted before after = after ≡ before

abbrev pub IsExplained : Files → Asked → Type 0 → Option (List ℕ) → Option (List ℕ) → Type 0
IsExplained files (Check asked) Halted before after =
    IsExplainedIf asked.explain files asked.graph Halted before after
IsExplained files asked Halted before after = after ≡ before
