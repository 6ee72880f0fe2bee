use Rattle.std.proofs.Common.{◌≡◌, List, sym, ap, ◌∙◌}
use Rattle.std.specs.List.{list_all}
use Rattle.bf_core.specs.Terms.{Run}
use Rattle.bf_core.specs.inner.Events.{is_closed}
use Rattle.bf_core.proofs.Closing.{ended_from, ended_back}
use Rattle.bf_core.proofs.machine.Core.is_ended.Goals as goal

pub returns : goal.returns
returns c =
    let closed : c.are_closed.result ≡ list_all (λ r. is_closed r.phase) c.self.inside.state.runs = c.are_closed.ensures ∙ ap (λ (rs : List Run). list_all (λ r. is_closed r.phase) rs) c.as_slice.ensures in
    rw (← c.self.view_is) (λ e. ended_from c.self.inside.state (sym closed ∙ e), λ h. closed ∙ ended_back c.self.inside.state h)
