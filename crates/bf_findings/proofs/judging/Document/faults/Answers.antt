use Rattle.std.proofs.Common.{◌≡◌, ◌++◌, List, [], ap, map, option_map, rules, subst, sym}
use Rattle.serde_json.specs.View.{view}
use Rattle.bf_findings.specs.Faults.{AreFaults}
use Rattle.bf_findings.specs.Listed.{head_places, tasks}
use Rattle.bf_findings.specs.declared.finding.Fault.{Fault}
use Rattle.bf_findings.specs.declared.place.DocumentPlace.{DocumentPlace}
use Rattle.bf_findings.proofs.Told.{at_first}
use Rattle.bf_findings.proofs.judging.Document.faults.Goals as goal

pub returns : goal.returns
returns c =
    let file = option_map (λ s. s.now) c.args.self.zone_file in
    let d = view c.args.self.value.now in
    let none : List Fault → Type 0 = λ fs. AreFaults file d [] fs in
    let head = c.in_ok-add_faults.ensures [] (subst none (sym {A = List Fault} c.new-found.ensures.items) (at_first file d)) in
    let P : List DocumentPlace → Type 0 = λ ps. AreFaults file d ps c.add_faults.new.found.items in
    let Q : List DocumentPlace → Type 0 = λ ps. AreFaults file d (head_places d ++ ps) c.add_task_faults.new.found.items in
    let known = subst P c.in_ok-places_before_tasks.ensures head in
    subst Q (ap (tasks 0) c.tasks_in.ensures) (c.in_ok-add_task_faults.ensures (head_places d) known)
