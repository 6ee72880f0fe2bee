use Rattle.bf_read.specs.Keys.{task_keys}
use Rattle.bf_findings.specs.declared.place.DocumentPlace.TheVariants as place
use Rattle.bf_findings.specs.Listed.{task_key_places}
use Rattle.std.proofs.Common.{◌++◌}
use Rattle.bf_findings.proofs.PlaceLemmas.{next_added}
use Rattle.bf_findings.proofs.places.add_task_keys.Goals as goal

pub loop-key-preserved : goal.loop-key-preserved
loop-key-preserved c =
    next_added (place.TaskKey c.args.n) c.loop-key.places.items c.push.new.self.items (c.args.places.now.items ++ task_key_places c.args.n) task_keys c.loop-key.key-index _ c.loop-key-test.true c.in_ok-push.ensures.items c.loop-key.invariant
