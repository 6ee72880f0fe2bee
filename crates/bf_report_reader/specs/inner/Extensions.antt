-- Reports that begin as one does that was read so far.
use Rattle.std.specs.Prelude.{◌≡◌, ℕ, zero, suc, true, List, [], ◌∷◌, ◌++◌, None, codes}
use Rattle.bf_plan.specs.Ids.{is_id_in}
use Rattle.bf_report.specs.declared.report.Version.{Version}
use Rattle.bf_report.specs.declared.report.Report.{Report}
use Rattle.bf_report.specs.Report.{version_word_of, report_text}
use Rattle.bf_report_reader.specs.declared.beginning.ReportSoFar.{ReportSoFar}
use Rattle.bf_report_reader.specs.Rules.{IsShownReport}
use Rattle.bf_report_reader.specs.inner.Beginning.{opening_text, is_whole_at, so_far}
use Rattle.bf_report_reader.specs.inner.Steps.{Follows}

-- the words of a head line
abbrev pub head_words : Version × List ℕ → List ℕ
head_words head = codes "@backfill" ++ 32 ∷ (version_word_of head.0 ++ 32 ∷ head.1)

-- the head line says this version and this dag id
abbrev pub SaysHead : List ℕ → Version × List ℕ → Type 0
SaysHead text head = (is_id_in head.1 ≡ true) × (text ≡ head_words head)

-- a report of which only the head was read
abbrev pub start : Version × List ℕ → ReportSoFar
start head = record { version = head.0; dag_id = head.1; tasks = []; runs = []; run = None }

-- by so many lines the one becomes the other
abbrev pub Leads : ℕ → ReportSoFar → ReportSoFar → Type 0
Leads zero old new = old ≡ new
Leads (suc more) old new =
    (text : List ℕ) × (next : ReportSoFar) × Follows old text next × Leads more next new

-- the lines that are left lead to this report
pub record Extends (beginning : ReportSoFar) (report : Report) : Type 0 where
  pub lines : ℕ
  pub last : ReportSoFar
  pub leads : Leads lines beginning last
  pub whole : is_whole_at last ≡ true
  pub is : so_far last ≡ report

-- each report whose text begins so goes on from here
abbrev pub IsKnown : ReportSoFar → Type 0
IsKnown beginning =
    (report : Report) (more : List ℕ) → IsShownReport report → report_text report
    ≡ opening_text (so_far beginning) ++ more → Extends beginning report
