use Rattle.std.proofs.Common.{◌≡◌, ℕ, List, None, Some, false, slice_get, sym, ap, ◌∙◌}
use Rattle.bf_core.specs.Terms.{Run}
use Rattle.bf_core.specs.Events.{phase_in, is_open, no_run}
use Rattle.bf_core.proofs.Placing.{read_row, read_none}
use Rattle.bf_core.proofs.state.State.is_open.Goals as goal

open-read : (runs : List Run) (k : ℕ) (row : Run) → slice_get runs k ≡ Some row → is_open row.phase ≡ is_open (phase_in runs k)
unfolding phase_in
open-read runs k row at = ap (λ r. is_open r.phase) (sym (read_row runs k row no_run at))

open-not : (runs : List Run) (k : ℕ) → slice_get runs k ≡ None → false ≡ is_open (phase_in runs k)
unfolding phase_in
open-not runs k at = ap (λ r. is_open r.phase) (sym (read_none runs k no_run at))

pub returns-in-Some : goal.returns-in-Some
returns-in-Some c = c.is_open.ensures ∙ open-read _ c.args.run _ (sym (c.in-Some.ensures {u = tt}))

pub returns-in-None : goal.returns-in-None
returns-in-None c = open-not _ c.args.run (sym c.in-None.ensures)
