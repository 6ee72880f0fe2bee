-- What a wait ends by, and why a turn halts.
use Rattle.std.specs.Prelude.{ℤ, ◌≤ℤ◌, List, Option, None, Some}
use Rattle.bf_try.specs.Asked.{Answered}
use Rattle.bf_sched.specs.Scheduling.{Schedule}
use Rattle.bf_lane.specs.Open.{Scheduled}
use Rattle.bf_exec.specs.declared.turn_fault.TurnFault.{TurnFault}
use Rattle.bf_exec.specs.Turns.{IsStrange, HasStranger}

-- ---- halts

-- the moment that was waited for has come, where there is one
abbrev pub IsPast : Option ℤ → ℤ → Type 0
IsPast None now = ⊥
IsPast (Some moment) now = moment ≤ℤ now

-- why the try of the answer didn't end
abbrev pub IsHaltBy : Answered → Schedule → Schedule → TurnFault → Type 0
IsHaltBy answer s t TurnFault.OutOfMemory = Unit {0}
IsHaltBy answer s t (TurnFault.Runner n) = ⊥
IsHaltBy answer s t TurnFault.Stranger = IsStrange answer s t

-- where a stranger came, these lanes have gathered it
abbrev pub IsLeftBy : List Scheduled → TurnFault → Type 0
IsLeftBy after TurnFault.OutOfMemory = Unit {0}
IsLeftBy after (TurnFault.Runner n) = Unit {0}
IsLeftBy after TurnFault.Stranger = (lanes : List Scheduled) × HasStranger lanes after
