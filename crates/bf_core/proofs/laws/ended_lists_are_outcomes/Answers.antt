use Rattle.bf_core.proofs.LegalLists.{legal_keeps, start_keeps}
use Rattle.bf_core.proofs.Shape.{legal_shapes, start_shapes}
use Rattle.bf_core.proofs.Outcomes.{ended_is}
use Rattle.bf_core.proofs.laws.ended_lists_are_outcomes.Goals as goal

pub returns : goal.returns
returns c = λ dag sound limits runs events legal over.
    ended_is dag sound runs _ (legal_keeps dag sound limits _ events (start_keeps dag runs) legal) (legal_shapes dag runs limits _ events (start_shapes dag runs) legal) over
