use Rattle.bf_graph.proofs.LookupLemmas.{place_marked, place_unmarked}
use Rattle.bf_graph.proofs.lookups.marked_places.Goals as goal
use Rattle.bf_graph.proofs.lookups.marked_places.Goals.{then-marks-t+in_ok-push, else-marks-t}

pub loop-t-preserved : goal.loop-t-preserved
loop-t-preserved c =
    elim c.if-marks-t.branch [
      | then-marks-t+in_ok-push w ↦ rw (w.places-is, w.in_ok-push.ensures.items) (place_marked _ _ _ c.loop-t.invariant w.if-marks-t.true)
      | else-marks-t w ↦ rw w.places-is (place_unmarked _ _ _ c.loop-t.invariant w.if-marks-t.false)
    ]
