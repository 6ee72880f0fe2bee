use Rattle.std.proofs.Common.{◌≡◌, ◌<◌, ℕ, List, length, slice_index_or, slice_set, ap, ◌∙◌}
use Rattle.bf_core.specs.Terms.{Run, RunPhase}
use Rattle.bf_core.specs.Events.{phase_put_in, no_run}
use Rattle.bf_core.proofs.Placing.{any_default, with_runs}
use Rattle.bf_core.proofs.state.State.set_phase.Goals as goal

runs-now : (runs : List Run) (k : ℕ) (row : Run) (p : RunPhase) → k < length runs → row ≡ slice_index_or runs k row →
    slice_set runs k (record { phase = p; cells = row.cells }) ≡ phase_put_in runs k p
unfolding phase_put_in
runs-now runs k row p h e = ap (λ r. slice_set runs k (record { phase = p; cells = r.cells })) (e ∙ any_default runs k row no_run h)

pub returns : goal.returns
returns c =
    let same : _ = runs-now _ c.args.run c.index_mut-row.result.now c.args.phase (rw (← c.self.view_is) at c.requires) c.index_mut-row.ensures.value in
    rw (← c.self.view_is) (with_runs _ _ _ same)
