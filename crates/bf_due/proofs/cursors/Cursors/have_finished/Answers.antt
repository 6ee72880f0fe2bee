use Rattle.std.proofs.Common.{◌≡◌, ℕ, List, get_or, sym, ap, ◌∙◌, subst}
use Rattle.bf_core.specs.declared.state.Cell.{Cell}
use Rattle.bf_due.specs.Cursors.{AreFinished}
use Rattle.bf_due.proofs.Reached.{noted_finished, settled_by}
use Rattle.bf_due.proofs.cursors.Cursors.have_finished.Goals as goal

pub returns-clause-finished : goal.returns-clause-finished
returns-clause-finished c = λ b k is cell.
    let from : c.number_at-from.result ≡ get_or c.args.self.now.finished.items c.args.task 0 = c.number_at-from.ensures ∙ ap (λ (xs : List ℕ). get_or xs c.args.task 0) c.as_slice.ensures.value in
    settled_by c.args.instances.now c.first_unfinished-finished.result c.first_unfinished-finished.ensures.within
    (c.first_unfinished-finished.ensures.finished (noted_finished b k c.args.task c.args.self.now is c.args.instances.now cell c.number_at-from.result from)) c.first_unfinished-finished.ensures.unfinished

pub returns-clause-reached : goal.returns-clause-reached
returns-clause-reached c = λ b k is cell.
    let from : c.number_at-from.result ≡ get_or c.args.self.now.finished.items c.args.task 0 = c.number_at-from.ensures ∙ ap (λ (xs : List ℕ). get_or xs c.args.task 0) c.as_slice.ensures.value in
    c.note_finished.ensures.reached b k is (subst (λ (d : Cell). AreFinished d c.first_unfinished-finished.result) (sym cell)
    (c.first_unfinished-finished.ensures.finished (noted_finished b k c.args.task c.args.self.now is c.args.instances.now cell c.number_at-from.result from)))
