use Rattle.std.proofs.Common.{◌≡◌, ◌++◌, ap, option_map, rules, subst, sym}
use Rattle.serde_json.specs.View.{view}
use Rattle.bf_findings.specs.Faults.{AreFaults}
use Rattle.bf_findings.specs.Listed.{task_places}
use Rattle.bf_findings.specs.declared.place.DocumentPlace.{DocumentPlace}
use Rattle.bf_findings.proofs.Told.{finished, next_task, no_task_left, stopped}
use Rattle.bf_findings.proofs.judging.Document.add_task_faults.Goals as goal

pub returns-then-len-gt-MOST_FAULTS : goal.returns-then-len-gt-MOST_FAULTS
returns-then-len-gt-MOST_FAULTS c = λ before are. stopped _ _ _ _ _ (search rules) (c.loop-n.invariant before are)

pub loop-n-preserved : goal.loop-n-preserved
loop-n-preserved c = λ before are.
    let file = option_map (λ s. s.now) c.args.self.zone_file in
    let d = view c.args.self.value.now in
    let found = c.loop-n.found.items in
    let now = c.add_faults.new.found.items in
    let task = c.index-items-n.result in
    next_task file d _ c.args.items.now c.loop-n.n task found now c.loop-n-test.true
    (λ earlier of. subst (λ ps. AreFaults file d (earlier ++ ps) now) (search rules) (c.in_ok-add_faults.ensures earlier of))
    (c.loop-n.invariant before are)

pub returns : goal.returns
returns c = λ before are. finished _ _ _ _ _ (no_task_left c.args.items.now c.loop-n.n c.loop-n-test.false) (c.loop-n.invariant before are)
