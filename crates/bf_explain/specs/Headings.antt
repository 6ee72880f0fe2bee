-- What a task in a run, or one of its instances, is called, and its state.
use Rattle.std.specs.Prelude.{ℕ, ℤ, pos, negsuc, zero, nat_lt, Bool, true, false, List, ◌++◌, Option, None, Some, codes, decimal, length, slice_get}
use Rattle.bf_moment.specs.Moment.{moment_text}
use Rattle.bf_report.specs.Report.{state_word}
use Rattle.bf_report.specs.declared.report.InstanceReport.{InstanceReport}
use Rattle.bf_report.specs.declared.report.TaskReport.{TaskReport}
use Rattle.bf_explain.specs.Beside.{state_text_of}

-- ---- map indexes

-- it is the index of an instance of the task, -1 of a task that isn't expanded there; none is asked for where there is no index
abbrev pub has_index_in : TaskReport → Option ℤ → Bool
has_index_in told None = true
has_index_in (TaskReport.Mapped instances) (Some (pos n)) = nat_lt n (length instances)
has_index_in (TaskReport.Mapped instances) (Some (negsuc n)) = false
has_index_in told (Some (negsuc zero)) = true
has_index_in told (Some index) = false

-- its place among the instances of an expanded task
abbrev pub place_in : Option ℤ → Option ℕ
place_in (Some (pos n)) = Some n
place_in index = None

-- ---- headings

-- as `total in the run of 2024-03-05T00:00:00Z: failed`
abbrev pub heading_at : List ℕ → ℤ → List ℕ → List ℕ
heading_at name start state =
    name ++ (codes " in the run of " ++ (moment_text start ++ (codes ": " ++ state)))

-- as `total [0]`
abbrev pub instance_name_of : List ℕ → ℕ → List ℕ
instance_name_of id place = id ++ (codes " [" ++ (decimal place ++ codes "]"))

-- of one instance of an expanded task, where it is there
abbrev pub instance_heading_of : List ℕ → ℤ → ℕ → Option InstanceReport → List ℕ
instance_heading_of id start place None = heading_at id start (codes "no_status")
instance_heading_of id start place (Some instance) =
    heading_at (instance_name_of id place) start (state_word instance.result.outcome)

abbrev pub heading_of_state : List ℕ → ℤ → TaskReport → Option ℕ → List ℕ
heading_of_state id start (TaskReport.Mapped instances) (Some place) =
    instance_heading_of id start place (slice_get instances place)
heading_of_state id start told place = heading_at id start (state_text_of (Some told))

-- ---- the one instance

-- the instance that is told of alone: that of a task that isn't expanded, or the one that is asked for
abbrev pub instance_in : TaskReport → Option ℕ → Option InstanceReport
instance_in (TaskReport.Ran instance) place = Some instance
instance_in (TaskReport.Mapped instances) (Some place) = slice_get instances place
instance_in told place = None
