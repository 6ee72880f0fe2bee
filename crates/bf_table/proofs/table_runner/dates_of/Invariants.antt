use Rattle.std.proofs.Common.{◌≡◌, take}
use Rattle.bf_table.specs.Tables.{dates_in}
use Rattle.bf_table.proofs.table_runner.dates_of.Given as goal

-- the dates so far
abbrev pub invariant-loop-start : goal.invariant-loop-start
invariant-loop-start l = l.dates.items ≡ dates_in (take l.start-index l.starts)
