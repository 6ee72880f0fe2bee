-- The times of the journal that a line names, and why there are none.
use Rattle.std.specs.Prelude.{◌≡◌, ℕ, List, [], Option, None, Some}
use Rattle.bf_plan.specs.declared.plan.Dag.{Dag}
use Rattle.bf_interval.specs.declared.interval.Interval.{Interval}
use Rattle.bf_command_fault.specs.declared.fault.CommandFault.{CommandFault}
use Rattle.bf_command_fault.specs.declared.fault.CommandFault.TheVariants.{Journal, OutOfMemory}
use Rattle.bf_times.specs.Times.{AreTimesOf, IsTimesFault}

-- the times of a journal where one is named, and else none
abbrev pub AreTimesTold : Dag → List Interval → Option (List ℕ) → List ℕ → Type 0
AreTimesTold dag intervals None times = times ≡ []
AreTimesTold dag intervals (Some journal) times = AreTimesOf dag intervals journal times

-- the journal is none of the graph and the runs; or memory is wanting
abbrev pub IsJournalFault : Dag → List Interval → Option (List ℕ) → CommandFault → Type 0
IsJournalFault dag intervals (Some journal) (Journal fault) =
    IsTimesFault dag intervals journal fault
IsJournalFault dag intervals journal OutOfMemory = Unit {0}
IsJournalFault dag intervals journal _ = ⊥
