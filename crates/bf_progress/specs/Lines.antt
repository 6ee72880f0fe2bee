-- The lines that are told of progress.
use Rattle.std.specs.Prelude.{ℕ, ◌-◌, List, ◌++◌, codes, decimal}
use Rattle.bf_progress.specs.declared.counts.Counts.{Counts}

-- as `runs 12/90 (4 open)  tasks 431/1800  running 8  waiting 3  failed 2`
abbrev pub counts_text : Counts → List ℕ
counts_text c =
    codes "runs " ++ (decimal c.closed
    ++ (codes "/" ++ (decimal c.runs
    ++ (codes " (" ++ (decimal (c.opened - c.closed) ++ (codes " open)"
    ++ (codes "  tasks " ++ (decimal c.settled
    ++ (codes "/" ++ (decimal c.tasks ++ (codes "  running " ++ (decimal c.running
    ++ (codes "  waiting " ++ (decimal c.waiting
    ++ (codes "  failed " ++ decimal c.failed)))))))))))))))
