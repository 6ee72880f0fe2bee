-- What the command `clear --plan` prints: what is cleared.
use Rattle.std.specs.Prelude.{◌≡◌, ◌+◌, ◌-◌, ◌==◌, ◌&&◌, ℕ, zero, suc, ℤ, Bool, false, not, List, [], ◌++◌, length, slice_get, Option, Some, None, if◌then◌else◌, codes, decimal}
use Rattle.std.specs.Fmt.{signed_decimal}
use Rattle.std.specs.List.{flat_map}
use Rattle.bf_plan.specs.declared.plan.Dag.{Dag}
use Rattle.bf_moment.specs.Moment.{moment_text}
use Rattle.bf_interval.specs.declared.interval.Interval.{Interval}
use Rattle.bf_journal.specs.declared.head.ClearedTask.{ClearedTask}
use Rattle.bf_dependents.specs.declared.place.Place.{Place}
use Rattle.bf_dependents.specs.Dependents.{AreDependents, Following}
use Rattle.bf_dependents.specs.Listing.{places_in}
use Rattle.bf_report.specs.declared.report.Report.{Report}
use Rattle.bf_command_fault.specs.declared.fault.CommandFault.{CommandFault}
use Rattle.bf_command_fault.specs.declared.fault.CommandFault.TheVariants.{CannotWrite}
use Rattle.bf_commands.specs.declared.cleared.ToClear.{ToClear}
use Rattle.bf_commands.specs.Cleared.{AreCleared, IsUncleared, MatchesFor}
use Rattle.bf_commands.specs.Journaled.{Heading, TellsOf}

abbrev pub index_words : Option ℤ → List ℕ
index_words None = []
index_words (Some index) = codes " " ++ signed_decimal index

-- a task in a run, or an instance of it, as in a seeds file
abbrev pub cleared_line : ClearedTask → List ℕ
cleared_line c =
    moment_text c.run.at.nanosecond
    ++ (codes " " ++ (c.task ++ (index_words c.index ++ codes "\n")))

-- how many of the numbers below n pass
abbrev pub counted : (ℕ → Bool) → ℕ → ℕ
counted p zero = 0
counted p (suc n) = counted p n + (if p n then 1 else 0)

-- the place before this one
abbrev pub place_before_in : List Place → ℕ → Option Place
place_before_in places i = if i == 0 then None else slice_get places (i - 1)

abbrev pub is_same_run : Option Place → Option Place → Bool
is_same_run (Some p) (Some q) = p.run == q.run
is_same_run _ _ = false

abbrev pub is_same_task : Option Place → Option Place → Bool
is_same_task (Some p) (Some q) = (p.run == q.run) && (p.task == q.task)
is_same_task _ _ = false

-- the place is the first of its run, where those of one stand together
abbrev pub begins_run_in : List Place → ℕ → Bool
begins_run_in places i = not (is_same_run (place_before_in places i) (slice_get places i))

-- the place is the first of its task in a run, where those of one stand together
abbrev pub begins_task_in : List Place → ℕ → Bool
begins_task_in places i = not (is_same_task (place_before_in places i) (slice_get places i))

abbrev pub runs_in : List Place → ℕ
runs_in places = counted (begins_run_in places) (length places)

abbrev pub tasks_in : List Place → ℕ
tasks_in places = counted (begins_task_in places) (length places)

-- how many tasks in runs are cleared, of which those with several instances count once, and how many runs they are of
abbrev pub sum_line : List Place → List ℕ
sum_line places =
    decimal (tasks_in places) ++ (codes " tasks in "
    ++ (decimal (runs_in places) ++ codes " runs\n"))

-- the report matches, what is cleared is known, and this follows from it
pub record AreFollowing (dag : Dag) (intervals : List Interval) (was : Report) (what : ToClear)
    (following : Following) : Type 0 where
  pub seeds : List Place
  pub are_cleared : AreCleared dag intervals was what seeds
  pub matches : MatchesFor what dag intervals was
  pub follows : AreDependents dag seeds (length intervals) following

-- a line for each of these cleared places, and their sum
pub record IsPlanText (dag : Dag) (intervals : List Interval) (places : List Place)
    (text : List ℕ) : Type 0 where
  pub cleared : Heading
  pub tells : TellsOf dag intervals places cleared
  pub text_is : text ≡ flat_map cleared_line cleared ++ sum_line places

-- the text has a line for each task in a run of which each instance is cleared, or else for each
-- instance, by date and in the order of the file, and behind these their sum
pub record IsClearPlan (dag : Dag) (intervals : List Interval) (was : Report) (what : ToClear)
    (text : List ℕ) : Type 0 where
  pub following : Following
  pub are_following : AreFollowing dag intervals was what following
  pub tells : IsPlanText dag intervals (places_in dag following (length intervals)) text

-- nothing is cleared in the report for this; or memory or the device is wanting
abbrev pub ClearPlanFault : Dag → List Interval → Report → ToClear → CommandFault → Type 0
ClearPlanFault dag intervals was what (CannotWrite n) = Unit {0}
ClearPlanFault dag intervals was what fault = IsUncleared dag intervals was what fault
