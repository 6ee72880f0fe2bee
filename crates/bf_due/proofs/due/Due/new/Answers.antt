use Rattle.std.proofs.Common.{List, sym, subst}
use Rattle.bf_due.specs.declared.agenda.Step.{Step}
use Rattle.bf_due.specs.declared.cursors.Cursors.{Cursors}
use Rattle.bf_due.specs.Cursors.{AreNoted}
use Rattle.bf_due.specs.Dues.{HasAdded}
use Rattle.bf_due.specs.inner.Dues.{IsOpening}
use Rattle.bf_due.proofs.Keeping.{starts}
use Rattle.bf_due.proofs.due.Due.new.Goals as goal

pub returns : goal.returns
returns c =
    starts c.args.core.now c.journal-replayed.ensures.replayed c.tasks_have_ranks.ensures c.in_ok-agenda.agenda.items c.add_open.new.agenda.items c.drop_outdated_steps.new.agenda.items
    (c.in_ok-agenda.ensures {u = tt}) (subst (λ (xs : List Step). HasAdded c.args.core.now IsOpening xs c.add_open.new.agenda.items) c.make_room.ensures.items c.add_open.ensures) c.new-progress.result.items c.new-progress.ensures.items
    (λ noted. c.drop_outdated_steps.ensures (subst (λ (rows : List Cursors). AreNoted c.args.core.now rows) (sym c.as_slice.ensures.value) noted)) c.drop_outdated_steps.new.agenda.room
