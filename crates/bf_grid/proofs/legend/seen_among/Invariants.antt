use Rattle.std.proofs.Common.{◌≡◌, filter, map, take}
use Rattle.bf_grid.specs.Legend.{is_seen_in}
use Rattle.bf_grid.proofs.legend.seen_among.Given as goal

abbrev pub invariant-loop-mark : goal.invariant-loop-mark
invariant-loop-mark l = l.found.items ≡ filter (is_seen_in (map (λ run. run.now) l.runs) l.tasks) (take l.mark-index l.marks)
