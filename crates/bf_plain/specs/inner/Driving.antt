-- How far a backfill by one worker has come.
use Rattle.std.specs.Prelude.{◌≡◌, ℕ, ◌<◌, length}
use Rattle.bf_try.specs.Asked.{Asked}
use Rattle.bf_try.specs.declared.runner.RunnerFault.{RunnerFault}
use Rattle.bf_core.specs.declared.fault.BackfillFault.{BackfillFault}
use Rattle.bf_core.specs.Running.{running_now}
use Rattle.bf_sched.specs.Scheduling.{Schedule}

-- no try runs
abbrev pub IsIdle : Schedule → Type 0
IsIdle s = running_now s.backfill.state ≡ 0

-- more events have come
abbrev pub IsLonger : Schedule → Schedule → Type 0
IsLonger old new = length old.backfill.journal < length new.backfill.journal

-- the fault that comes of a try without an answer
abbrev pub fault_by : Asked → RunnerFault → BackfillFault
fault_by ticket RunnerFault.OutOfMemory = BackfillFault.OutOfMemory
fault_by ticket RunnerFault.GaveUp = BackfillFault.Runner ticket.name
