use Rattle.std.proofs.Common.{Some, None, if◌then◌else◌, true≢false, sym, ap, ◌∙◌}
use Rattle.bf_mapped.proofs.FilterLemmas.{one_more}
use Rattle.bf_dependents.specs.declared.fault.ClearFault.TheVariants.{UnknownRun}
use Rattle.bf_dependents.specs.Seeds.{place_in}
use Rattle.bf_dependents.proofs.SeedFaults.{one_known, one_unknown_run}
use Rattle.bf_dependents.proofs.seeds.places_of.Goals as goal
use Rattle.bf_dependents.proofs.seeds.places_of.Goals.{in-Ok+in_ok-add_place-in-Ok, in-Err-UnknownRun}

pub loop-seed-preserved : goal.loop-seed-preserved
loop-seed-preserved c =
    let dag = c.args.plan.now.dag in
    let intervals = c.args.intervals.now in
    let seeds = c.args.seeds.now in
    let i = c.loop-seed.seed-index in
    let seed = c.seed-item.result in
    let within = c.loop-seed-test.true in
    elim c.match-place_of.branch [
      | in-Ok+in_ok-add_place-in-Ok w ↦ (
        one_known dag intervals seeds i seed within c.seed-item.is w.in-Ok.ensures.known ∙ c.loop-seed.invariant.0 ∙ ap (λ b. if b then Some UnknownRun else None) (sym w.is_run_unknown-is),
        λ known. ap (λ v. v.items) w.places-is ∙ w.in_ok-add_place-in-Ok.ensures.ok
            ∙ one_more (place_in dag intervals) seeds i seed _ _ within c.seed-item.is w.in-Ok.ensures.ok (c.loop-seed.invariant.1 (sym w.is_run_unknown-is ∙ known)),
      )
      | in-Err-UnknownRun w ↦ (
        one_unknown_run dag intervals seeds i seed within c.seed-item.is c.loop-seed.is_run_unknown c.loop-seed.invariant.0 (w.in-Err-UnknownRun.ensures.err ∙ ap Some w.in-Err-UnknownRun.field-0-is)
            ∙ ap (λ b. if b then Some UnknownRun else None) (sym w.is_run_unknown-is),
        λ known. absurd (true≢false (sym w.is_run_unknown-is ∙ known)),
      )
    ]
