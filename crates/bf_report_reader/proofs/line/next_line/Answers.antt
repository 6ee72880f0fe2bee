use Rattle.bf_report_reader.specs.inner.Held.{held_bytes}
use Rattle.bf_report_reader.proofs.Pieces.{came_on, came_to_end}
use Rattle.bf_report_reader.proofs.line.next_line.Goals as goal

pub loop-held-preserved : goal.loop-held-preserved
loop-held-preserved g c =
    let (came, in_line, few, tallied) = c.loop-held.invariant in
    let moves = rw c.if-branch.false at c.in_ok-move_piece.ensures.piece in
    let on = came_on _ _ (g.R.Read.left c.has_more.new.device) (held_bytes c.has_more.new.self) (held_bytes c.move_piece.new.held) c.loop-held.line.items c.move_piece.new.line.items came c.in_ok-has_more.ensures.same in_line moves in
    (on.0, on.1, on.2, λ base failed t. rw c.in_ok-move_piece.ensures.same (c.in_ok-has_more.ensures.tallied base failed (tallied base failed t)))

pub returns-then-branch-clause-came : goal.returns-then-branch-clause-came
returns-then-branch-clause-came g c =
    let (came, in_line, few, tallied) = c.loop-held.invariant in
    let moves = rw c.if-branch.true at c.in_ok-move_piece.ensures.piece in
    let ends = came_to_end _ _ (g.R.Read.left c.has_more.new.device) (held_bytes c.has_more.new.self) (held_bytes c.move_piece.new.held) c.loop-held.line.items c.move_piece.new.line.items came c.in_ok-has_more.ensures.same in_line moves in
    (ends.0, ends.2)

pub returns-then-branch-clause-tallied : goal.returns-then-branch-clause-tallied
returns-then-branch-clause-tallied g c = λ base failed t. rw c.in_ok-move_piece.ensures.same (c.in_ok-has_more.ensures.tallied base failed (c.loop-held.invariant.3 base failed t))

pub returns-then-not-branch-clause-tallied : goal.returns-then-not-branch-clause-tallied
returns-then-not-branch-clause-tallied g c = λ base failed t. c.in_ok-has_more.ensures.tallied base failed (c.loop-held.invariant.3 base failed t)
