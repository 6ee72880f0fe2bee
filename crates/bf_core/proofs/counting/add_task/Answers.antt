use Rattle.std.proofs.Common.{ap, sym, subst, arith}
use Rattle.bf_rule.specs.Verdicts.{total_of}
use Rattle.bf_core.specs.Events.{counts_of_cell}
use Rattle.bf_core.specs.Few.{IsFew}
use Rattle.bf_core.proofs.Sums.{few_total, total_add}
use Rattle.bf_core.proofs.counting.add_task.Goals as goal

pub returns-in-Some-clause-few : goal.returns-in-Some-clause-few
returns-in-Some-clause-few c =
    let cell = c.in-Some.cell.now in
    let few : IsFew cell = subst IsFew (sym c.in-Some.ensures.cell) (c.requires.few c.args.run c.args.task) in
    omega (arith, ap total_of c.add_cell.ensures, total_add c.args.counts.now (counts_of_cell cell), few_total cell few)
