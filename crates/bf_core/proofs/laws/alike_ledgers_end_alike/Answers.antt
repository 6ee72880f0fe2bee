use Rattle.bf_core.proofs.LegalLists.{legal_keeps, start_keeps}
use Rattle.bf_core.proofs.Shape.{legal_shapes, start_shapes}
use Rattle.bf_core.proofs.Outcomes.{ended_is}
use Rattle.bf_core.proofs.Confluence.{states_equal}
use Rattle.bf_core.proofs.laws.alike_ledgers_end_alike.Goals as goal

pub returns : goal.returns
returns c = λ dag sound one two runs events others legal also over end alike.
    let inv : _ = legal_keeps dag sound one _ events (start_keeps dag runs) legal in
    let shaped : _ = legal_shapes dag runs one _ events (start_shapes dag runs) legal in
    let inv2 : _ = legal_keeps dag sound two _ others (start_keeps dag runs) also in
    let shaped2 : _ = legal_shapes dag runs two _ others (start_shapes dag runs) also in
    states_equal dag sound runs _ _ shaped shaped2 over end (ended_is dag sound runs _ inv shaped over) (ended_is dag sound runs _ inv2 shaped2 end) alike
