use Rattle.std.proofs.Common.{◌++◌, List, drop, map, option_map}
use Rattle.serde_json.specs.View.{view}
use Rattle.bf_findings.specs.declared.place.DocumentPlace.{DocumentPlace}
use Rattle.bf_findings.specs.Faults.{AreFaults}
use Rattle.bf_findings.specs.Listed.{tasks}
use Rattle.bf_findings.proofs.Told.{Reached}
use Rattle.bf_findings.proofs.judging.Document.add_task_faults.Given as goal

-- what has been found is of the tasks so far
abbrev pub invariant-loop-n : goal.invariant-loop-n
invariant-loop-n l = (before : List DocumentPlace) → AreFaults (option_map (λ s. s.now) l.self.zone_file) (view l.self.value.now) before l.fn.found.items
    → Reached (option_map (λ s. s.now) l.self.zone_file) (view l.self.value.now) (before ++ tasks 0 (map view l.items)) (tasks l.n (map view (drop l.n l.items))) l.found.items
