use Rattle.std.proofs.Common.{arith}
use Rattle.std.proofs.lemmas.List.Elements.{Contains-get_or}
use Rattle.bf_graph.proofs.LevelLemmas.{one_more_marked, all_more_marked}
use Rattle.bf_graph.proofs.cycles.mark_all.Goals as goal

pub index_mut-requires : goal.index_mut-requires
index_mut-requires c =
    let within = c.requires _ (Contains-get_or c.args.tasks.now c.loop-t.t-index 0 c.loop-t-test.true) in
    let len = c.loop-t.invariant.len in
    omega (arith, within, len)

pub loop-t-preserved : goal.loop-t-preserved
loop-t-preserved c =
    let within = c.requires _ (Contains-get_or c.args.tasks.now c.loop-t.t-index 0 c.loop-t-test.true) in
    let len = c.loop-t.invariant.len in
    one_more_marked _ _ _ _ (omega (arith, within, len)) c.loop-t.invariant

pub returns-clause-marks : goal.returns-clause-marks
returns-clause-marks c = all_more_marked _ _ _ _ c.loop-t-test.false c.loop-t.auto.t-index-end c.loop-t.invariant
