-- What is kept of a journal, and else of what was kept before it.
use Rattle.std.specs.Prelude.{Bool, true, false}
use Rattle.std.specs.Option.{option_or}
use Rattle.bf_plan.specs.declared.plan.Dag.{Dag}
use Rattle.bf_try.specs.Tries.{Ledger}
use Rattle.bf_journal.specs.Retrying.{without_failed}

-- of the tries of a journal all; or where failed ones are made again, the others
abbrev pub left_of : Bool → Dag → Ledger → Ledger
left_of true dag tries = without_failed dag tries
left_of false dag tries = tries

-- the try that one keeps, and else the one that the other does
abbrev pub since : Ledger → Ledger → Ledger
since kept before n = option_or (kept n) (before n)
