use Rattle.std.proofs.Common.{◌≡◌, true, false, List, sym, ◌∙◌, subst}
use Rattle.bf_due.specs.declared.cursors.Cursors.{Cursors}
use Rattle.bf_due.specs.Cursors.{AreNoted}
use Rattle.bf_due.proofs.Keeping.{keeps, speaks}
use Rattle.bf_due.proofs.due.Due.on_event.Goals as goal

pub returns-then-names_no_stranger : goal.returns-then-names_no_stranger
returns-then-names_no_stranger c = rw (← c.self.view_is) (λ b may same is.
    keeps b c.args.core.now c.args.event.now c.run_count-runs.ensures.replayed may same _ is c.add_steps_after.new.rows.items c.forget_closed.new.rows.items c.add_steps_after.new.agenda.items c.drop_outdated_steps.new.agenda.items c.add_steps_after.ensures
    c.forget_closed.ensures
    (λ noted. c.drop_outdated_steps.ensures (subst (λ (rows : List Cursors). AreNoted c.args.core.now rows) (sym c.as_slice.ensures.value) noted)) c.drop_outdated_steps.new.agenda.room)

pub returns-else-names_no_stranger : goal.returns-else-names_no_stranger
returns-else-names_no_stranger c = λ b may same is.
    let yes : c.names_no_stranger.result ≡ true = c.names_no_stranger.ensures.1 (speaks b c.args.core.now c.args.event.now is.replayed c.run_count-runs.ensures.replayed may same) in
    let f : true ≡ false = sym yes ∙ c.if-names_no_stranger.false in
    cc
