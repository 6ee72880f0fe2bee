use Rattle.std.proofs.Common.{◌<◌, ℕ, length, sym, ap, ◌∙◌, arith, length-set}
use Rattle.bf_core.specs.Terms.{Run}
use Rattle.bf_core.specs.Recursion.{run_state_of}
use Rattle.bf_core.specs.inner.Checks.{row_value}
use Rattle.bf_core.proofs.Closing.{written_more, row_state}
use Rattle.bf_core.proofs.ended.write_states.Goals as goal

pub loop-run-preserved : goal.loop-run-preserved
loop-run-preserved c =
    let i : ℕ = c.loop-run.run in
    let within : i < length c.args.runs.now = c.loop-run-test.true in
    record {
      room = length-set _ _ _ ∙ c.loop-run.invariant.room;
      written = written_more c.loop-run.states.items i c.run_state.result (λ k. run_state_of c.args.plan.now.dag (row_value c.args.runs.now k)) (omega (arith, within, c.loop-run.invariant.room)) c.loop-run.invariant.written
          (row_state c.args.plan.now.dag c.args.runs.now i c.index-runs-run.result c.as_slice.result.now c.run_state.result within c.index-runs-run.is (c.as_slice.ensures ∙ ap (λ (r : Run). r.cells) (sym c.index-runs-run.is)) c.run_state.ensures);
    }
