use Rattle.std.proofs.Common.{◌++◌, List, option_map}
use Rattle.serde_json.specs.View.{view}
use Rattle.bf_findings.specs.declared.place.DocumentPlace.{DocumentPlace}
use Rattle.bf_findings.specs.Faults.{AreFaults}
use Rattle.bf_findings.proofs.Told.{Reached}
use Rattle.bf_findings.proofs.judging.Document.add_faults.Given as goal

-- what has been found is of the places so far
abbrev pub invariant-loop-place : goal.invariant-loop-place
invariant-loop-place l = (before : List DocumentPlace) → AreFaults (option_map (λ s. s.now) l.self.zone_file) (view l.self.value.now) before l.fn.found.items
    → Reached (option_map (λ s. s.now) l.self.zone_file) (view l.self.value.now) (before ++ l.fn.places.items) l.place-iterator.rest.items l.found.items
