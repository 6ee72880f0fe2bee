use Rattle.std.proofs.Common.{insert, map, ap, ap₂, ◌∙◌}
use Rattle.bf_grid.specs.inner.FoundTasks.{first_fewer, pair_of}
use Rattle.bf_grid.proofs.FoundFacts.{put_there}
use Rattle.bf_grid.proofs.failed_tasks.insert_failing.Goals as goal

pub returns : goal.returns
returns c =
    let found = c.args.found.now.items in
    let failing = c.args.failing in
    ap (map pair_of) (c.in_ok-insert.ensures.items ∙ ap (λ place. insert found place failing) (c.place_of-place.ensures.place ∙ ap₂ first_fewer (c.len.ensures ∙ failing.starts.ok.0) c.as_slice.ensures.value))
    ∙ put_there found failing
