use Rattle.std.proofs.Common.{sym, ◌∙◌}
use Rattle.bf_core.proofs.Kept.{replay_rows}
use Rattle.bf_core.proofs.Coming.{open_there, closable_back}
use Rattle.bf_core.proofs.Known.{closable_from}
use Rattle.bf_core.proofs.machine.Core.may_close.Goals as goal

pub returns-in-None : goal.returns-in-None
returns-in-None c = rw (← c.self.view_is) (λ e. cc, λ p. absurd (open_there c.self.inside.state c.args.run p.0.0 (c.in-None.ensures {u = tt})))

pub returns-in-Some : goal.returns-in-Some
returns-in-Some c =
    rw (← c.self.view_is) (
      λ e.
          let is : _ = closable_from c.self.inside.plan.now.dag c.self.inside.state (replay_rows _ c.self.invariant.replayed) c.args.run c.in-Some.row.now (sym (c.in-Some.ensures {u = tt})) (sym c.is_closable.ensures ∙ e) in
          ((is.1, is.2), tt),
      λ p. c.is_closable.ensures ∙ closable_back c.self.inside.plan.now.dag c.self.inside.state (replay_rows _ c.self.invariant.replayed) c.args.run c.in-Some.row.now (sym (c.in-Some.ensures {u = tt})) p.0,
    )
