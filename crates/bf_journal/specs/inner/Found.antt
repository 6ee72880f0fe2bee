-- What is found while a journal is read.
use Rattle.std.specs.Prelude.{◌<◌, ◌∷◌, ℕ, List, [], length}
use Rattle.bf_value.specs.declared.name.JobName.{JobName}
use Rattle.bf_plan.specs.declared.plan.Dag.{Dag}
use Rattle.bf_interval.specs.declared.interval.Interval.{Interval}
use Rattle.bf_try.specs.declared.ledger.Entry.{Entry}
use Rattle.bf_journal.specs.declared.fault.JournalFault.{JournalFault}
use Rattle.bf_journal.specs.declared.fault.JournalFault.TheVariants.{BadRecord, Mismatch, OutOfMemory}
use Rattle.bf_journal.specs.Found.{IsFirstBad}

-- ---- what is kept of tries

-- the tries are of tasks that are there
abbrev pub AreOfTasks : Dag → List (JobName × Entry) → Type 0
AreOfTasks dag [] = Unit {0}
AreOfTasks dag (try ∷ tries) = (try.0.task < length dag.tasks) × AreOfTasks dag tries

-- ---- a journal

-- why the lines behind a journal's head are refused; want of memory says nothing of them
abbrev pub IsFaultBehind : Dag → List Interval → List ℕ → JournalFault → Type 0
IsFaultBehind dag intervals bytes (BadRecord number) = IsFirstBad dag intervals bytes number
IsFaultBehind dag intervals bytes Mismatch = ⊥
IsFaultBehind dag intervals bytes OutOfMemory = Unit {0}
