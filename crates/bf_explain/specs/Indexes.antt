-- Which instances of an expanded task are in which state.
use Rattle.std.specs.Prelude.{ℕ, zero, suc, ◌+◌, ◌==◌, max, Bool, false, if◌then◌else◌, List, [], ◌∷◌, ◌++◌, Option, None, Some, codes, decimal, length, slice_get}
use Rattle.std.specs.List.{flat_map, range_with_len}
use Rattle.std.specs.Str.{bytes_eq}
use Rattle.bf_core.specs.Terms.{Counts, TaskResult}
use Rattle.bf_core.specs.Deciding.{counts_of_results_of}
use Rattle.bf_report.specs.Report.{state_word}
use Rattle.bf_explain.specs.Beside.{padded_of}

abbrev pub is_in_state : List ℕ → Option TaskResult → Bool
is_in_state state None = false
is_in_state state (Some ended) = bytes_eq (state_word ended.outcome) state

-- the instance of this index is in the state
abbrev pub is_at_index : List ℕ → List TaskResult → ℕ → Bool
is_at_index state results index = is_in_state state (slice_get results index)

abbrev pub is_before_index : List ℕ → List TaskResult → ℕ → Bool
is_before_index state results zero = false
is_before_index state results (suc index) = is_at_index state results index

-- behind others of the state: the last of them ends a range
abbrev pub range_end : Bool → ℕ → List ℕ
range_end goes_on index = if goes_on then [] else codes "-" ++ decimal index

-- an index that begins a range stands behind a space, one that ends a range behind a hyphen, and those between don't stand there
abbrev pub index_text : List ℕ → List TaskResult → ℕ → List ℕ
index_text state results index =
    if is_at_index state results index
    then (if is_before_index state results index
    then range_end (is_at_index state results (index + 1)) index else codes " "
    ++ decimal index)
    else []

-- the indexes of the instances in the state, as ` 0 2-3`
abbrev pub indexes_text_of : List ℕ → List TaskResult → List ℕ
indexes_text_of state results =
    flat_map (index_text state results) (range_with_len 0 (length results))

abbrev pub state_width_of : ℕ → List ℕ → ℕ
state_width_of count state = if count == 0 then 0 else length state

-- the length of the longest state that is there
abbrev pub states_width_of : Counts → ℕ
states_width_of counts =
    max (state_width_of counts.success (codes "success"))
    (max (state_width_of counts.failed (codes "failed"))
    (state_width_of counts.skipped (codes "skipped")))

abbrev pub state_line : ℕ → List TaskResult → List ℕ → ℕ → List (List ℕ)
state_line width results state count =
    if count == 0 then [] else (padded_of width state
    ++ (codes " " ++ indexes_text_of state results)) ∷ []

abbrev pub state_lines_by : List TaskResult → Counts → ℕ → List (List ℕ)
state_lines_by results counts width =
    (state_line width results (codes "success") counts.success
    ++ state_line width results (codes "failed") counts.failed)
    ++ state_line width results (codes "skipped") counts.skipped

-- a line for each state that is there
abbrev pub state_lines_of : List TaskResult → List (List ℕ)
state_lines_of results =
    state_lines_by results (counts_of_results_of results)
    (states_width_of (counts_of_results_of results))
