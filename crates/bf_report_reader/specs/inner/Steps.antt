-- What comes of a line.
use Rattle.std.specs.Prelude.{◌≡◌, ◌<◌, ◌⊎◌, ℕ, true, List, [], ◌∷◌, ◌++◌, length, Option, Some, codes, decimal}
use Rattle.std.specs.Io.KnownBytes.{Consumes}
use Rattle.bf_report.specs.declared.report.RunReport.{RunReport}
use Rattle.bf_report_reader.specs.declared.entry.Entry.{Entry}
use Rattle.bf_report_reader.specs.declared.beginning.ReportSoFar.{ReportSoFar}
use Rattle.bf_report_reader.specs.declared.part.GivenPart.{GivenPart}
use Rattle.bf_report_reader.specs.declared.reading.Step.{Step}
use Rattle.bf_report_reader.specs.inner.Entries.{IsEntry, entry_text}
use Rattle.bf_report_reader.specs.inner.Parts.{IsPart, part_text}
use Rattle.bf_report_reader.specs.Runs.{IsRunInterval}
use Rattle.bf_report_reader.specs.inner.Runs.{run_words}
use Rattle.bf_report_reader.specs.inner.Rules.{KeepsRules}
use Rattle.bf_report_reader.specs.Beginning.{with_entry}
use Rattle.bf_report_reader.specs.inner.Beginning.{room, opening_text, is_whole_at, so_far, runs_of, with_run, with_part}

-- the line is that of a task which may stand next, and the other is the report with it
pub record AddsEntry (old : ReportSoFar) (text : List ℕ) (new : ReportSoFar) : Type 0 where
  pub id : List ℕ
  pub entry : Entry
  pub good : IsEntry entry
  pub spelled : text ≡ id ++ 32 ∷ entry_text entry
  pub added : with_entry old id entry ≡ Some new

-- the line is that of a run which may stand next
pub record AddsRun (old : ReportSoFar) (text : List ℕ) (new : ReportSoFar) : Type 0 where
  pub run : RunReport
  pub bare : run.tasks ≡ []
  pub good : IsRunInterval run.interval
  pub spelled : text ≡ codes "@run" ++ 32 ∷ run_words (run.interval, run.state)
  pub added : with_run old run ≡ Some new

-- the line is that of an item or a pull which may stand next
pub record AddsPart (old : ReportSoFar) (text : List ℕ) (new : ReportSoFar) : Type 0 where
  pub part : GivenPart
  pub good : IsPart part
  pub spelled : text ≡ part_text part
  pub added : with_part old part ≡ Some new

-- by the line the report has become the other
abbrev pub Follows : ReportSoFar → List ℕ → ReportSoFar → Type 0
Follows old text new = AddsEntry old text new ⊎ (AddsRun old text new ⊎ AddsPart old text new)

-- the line is the end of the report
abbrev pub MayEnd : ReportSoFar → List ℕ → Type 0
MayEnd beginning text =
    (text ≡ codes "@end" ++ 32 ∷ decimal (length (runs_of beginning)))
    × (is_whole_at beginning ≡ true)

-- the line may stand next
abbrev pub MayStand : ReportSoFar → List ℕ → Type 0
MayStand beginning text = ((new : ReportSoFar) × Follows beginning text new) ⊎ MayEnd beginning text

-- the report has grown by the line
pub record IsNext (old : ReportSoFar) (text : List ℕ) (new : ReportSoFar) : Type 0 where
  pub kept : KeepsRules new
  pub shrinks : room new < room old
  pub follows : Follows old text new
  pub read : opening_text (so_far new) ≡ opening_text (so_far old) ++ (text ++ 10 ∷ [])

-- what comes of a line
abbrev pub Steps : Step → ReportSoFar → List ℕ → ReportSoFar → Type 0
Steps Step.Taken old text new = IsNext old text new
Steps Step.End old text new = MayEnd old text × (new ≡ old)
Steps Step.Refused old text new = ¬ (MayStand old text)

-- what comes of a line that begins with this id, read as that of a task
abbrev pub EntrySteps : Step → ReportSoFar → List ℕ → List ℕ → ReportSoFar → Type 0
EntrySteps Step.Taken old id text new = IsNext old (id ++ 32 ∷ text) new
EntrySteps Step.End old id text new = ⊥
EntrySteps Step.Refused old id text new =
    (entry : Entry) (other : ReportSoFar) → IsEntry entry → text ≡ entry_text entry
    → ¬ (with_entry old id entry ≡ Some other)

-- the report may end by this number of runs
abbrev pub EndsBy : Step → ReportSoFar → List ℕ → Type 0
EndsBy Step.Taken beginning text = ⊥
EndsBy Step.End beginning text = MayEnd beginning (codes "@end" ++ 32 ∷ text)
EndsBy Step.Refused beginning text = ¬ (MayEnd beginning (codes "@end" ++ 32 ∷ text))

-- between these the bytes came by which the text has grown
abbrev pub ReadsOn : Option (List ℕ) → Option (List ℕ) → List ℕ → List ℕ → Type 0
ReadsOn old new before after = (text : List ℕ) × Consumes old new text × (after ≡ before ++ text)
