use Rattle.bf_lane.proofs.Serving.{IsServing}
use Rattle.bf_lane.proofs.worker.serve.Given as goal

abbrev pub invariant-loop : goal.invariant-loop
invariant-loop g l =
    (goal.iterator-loop g).can_next l.iterator' × (goal.iterator-loop g).is_finite l.iterator'
    × IsServing g.K.Service.answers g.K.Service.gives_up l.desk.jobs.now l.desk.results.now l.takes l.sends
