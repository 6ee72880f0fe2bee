-- What the lines of tasks say, behind the id.
use Rattle.std.specs.Prelude.{◌≡◌, ℕ, ◌<◌, List, ◌∷◌, ◌++◌, Option, Some, None, codes, decimal}
use Rattle.bf_xcom.specs.declared.values.Outcome.{Outcome}
use Rattle.bf_xcom.specs.declared.values.TaskResult.{TaskResult}
use Rattle.bf_report.specs.Report.{state_word, value_word}
use Rattle.bf_report_reader.specs.declared.entry.Untried.{Untried}
use Rattle.bf_report_reader.specs.declared.entry.Entry.{Entry}
use Rattle.bf_report_reader.specs.declared.entry.Entry.TheVariants.{Never, Tried}
use Rattle.bf_report_reader.specs.Entries.{IsShownOutcome, IsShownResult}

-- the outcome has this state and this value
abbrev pub SaysOutcome : List ℕ → List ℕ → Outcome → Type 0
SaysOutcome state value outcome =
    IsShownOutcome outcome × (state ≡ state_word outcome) × (value ≡ value_word outcome)

-- the instance has this state, these tries and this value
abbrev pub SaysResult : List ℕ → List ℕ → List ℕ → TaskResult → Type 0
SaysResult state tries value result =
    IsShownResult result × (state ≡ state_word result.outcome) × (tries ≡ decimal result.tries)
    × (value ≡ value_word result.outcome)

-- the map index: -1 of a task that isn't expanded
abbrev pub index_text : Option ℕ → List ℕ
index_text None = codes "-1"
index_text (Some index) = decimal index

abbrev pub IsIndex : Option ℕ → Type 0
IsIndex None = Unit {0}
IsIndex (Some index) = index < 1_024

-- the state of a task without a try
abbrev pub never_word : Untried → List ℕ
never_word Untried.NoStatus = codes "no_status"
never_word Untried.Skipped = codes "skipped"
never_word Untried.UpstreamFailed = codes "upstream_failed"

-- a task without a try has these fields
abbrev pub SaysNever : List ℕ → List ℕ → List ℕ → List ℕ → Untried → Type 0
SaysNever index state tries value untried =
    (index ≡ codes "-1") × (state ≡ never_word untried) × (tries ≡ codes "0") × (value ≡ codes "-")

-- index, state, tries and value, separated by one space
abbrev pub entry_text : Entry → List ℕ
entry_text (Never state) =
    codes "-1" ++ 32 ∷ (never_word state ++ 32 ∷ (codes "0" ++ 32 ∷ codes "-"))
entry_text (Tried index result) =
    index_text index ++ 32 ∷ (state_word result.outcome ++ 32
    ∷ (decimal result.tries ++ 32 ∷ value_word result.outcome))

abbrev pub IsEntry : Entry → Type 0
IsEntry (Never state) = Unit {0}
IsEntry (Tried index result) = IsIndex index × IsShownResult result
