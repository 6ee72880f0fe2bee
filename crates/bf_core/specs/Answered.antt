-- What runners answered to the tries of a backfill, and the faults that they may make.
use Rattle.std.specs.Prelude.{◌≡◌, Some}
use Rattle.bf_try.specs.declared.answers.Raw.{Raw}
use Rattle.bf_try.specs.Grades.{grade_of}
use Rattle.bf_core.specs.Terms.{Dag, JobName, Given, Entry, Ledger}
use Rattle.bf_core.specs.declared.fault.BackfillFault.{BackfillFault}

-- each try that ended has the grade of an answer that may be given to it
abbrev pub AreGraded : (JobName → Given → Raw → Type 0) → Dag → Ledger → Type 0
AreGraded may_answer dag ledger =
    (name : JobName) (entry : Entry) → ledger name ≡ Some entry → (raw : Raw)
    × may_answer name entry.given raw × (entry.outcome ≡ grade_of dag name.task raw)

-- memory may be wanting, and the try that is named may be given up; where nobody starts workers, none fails to start
abbrev pub MayFault : (JobName → Given → Type 0) → BackfillFault → Type 0
MayFault may_give_up BackfillFault.OutOfMemory = Unit {0}
MayFault may_give_up (BackfillFault.Runner name) = (given : Given) × may_give_up name given
MayFault may_give_up BackfillFault.Start = ⊥
