use Rattle.std.proofs.Common.{◌+◌, List, Bool, sym, subst, take}
use Rattle.std.proofs.lemmas.List.{get_or_default}
use Rattle.bf_dependents.specs.inner.Marks.{AreSeeded}
use Rattle.bf_dependents.proofs.RightMarks.{seeded_more}
use Rattle.bf_dependents.proofs.marks.seed_rows.Goals as goal

pub loop-seed-preserved : goal.loop-seed-preserved
loop-seed-preserved c =
    let seeds = c.args.seeds.now in
    let i = c.loop-seed.seed-index in
    subst (λ (rows : List (List Bool)). AreSeeded (take (i + 1) seeds) c.args.runs c.args.tasks rows) (sym c.mark.ensures)
    (seeded_more seeds i c.args.runs c.args.tasks c.loop-seed.rows.items _ c.loop-seed-test.true (get_or_default seeds i _ _ c.loop-seed-test.true) c.loop-seed.invariant)
