use Rattle.std.proofs.Common.{◌≡◌, ◌≢◌, ◌-◌, ◌∙◌, get_or, arith, rules}
use Rattle.bf_grid.proofs.RowFacts.{end_off, end_stays, nothing_stays}
use Rattle.bf_grid.proofs.row.trimmed.Goals as goal
use Rattle.bf_grid.proofs.row.trimmed.Goals.{then-loop-end-test+else-line-end-eq32, else-loop-end-test}

pub loop-end-preserved : goal.loop-end-preserved
loop-end-preserved c =
    let space : get_or c.args.line.now (c.loop-end.end - 1) 0 ≡ 32 = search rules in
    (end_off c.args.line.now c.loop-end.end (omega arith) c.loop-end.invariant.1 space ∙ c.loop-end.invariant.0, omega (arith, c.loop-end.invariant.1))

pub returns : goal.returns
returns c =
    elim c.loop-end-test.branch [
      | then-loop-end-test+else-line-end-eq32 w ↦
          let other : get_or c.args.line.now (c.loop-end.end - 1) 0 ≢ 32 = search rules in
          end_stays c.args.line.now c.loop-end.end (omega (arith, w.loop-end-test.true)) c.loop-end.invariant.1 other ∙ c.loop-end.invariant.0
      | else-loop-end-test w ↦ nothing_stays c.args.line.now c.loop-end.end (omega (arith, w.loop-end-test.false)) ∙ c.loop-end.invariant.0
    ]
