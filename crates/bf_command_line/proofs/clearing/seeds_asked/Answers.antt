use Rattle.std.proofs.Common.{◌≡◌, ◌+◌, ℕ, length, List, Some, slice_get, sym, subst, arith}
use Rattle.std.proofs.lemmas.List.{length_push}
use Rattle.clap.specs.Words.{found_of, rows_of}
use Rattle.bf_command_line.specs.declared.forms.SeedAsked.{SeedAsked}
use Rattle.bf_command_line.specs.Asked.{IsSeedAt}
use Rattle.bf_command_line.proofs.Rows.{one_more}
use Rattle.bf_command_line.proofs.clearing.seeds_asked.Goals as goal

pub loop-place-preserved : goal.loop-place-preserved
loop-place-preserved c =
    let rows = rows_of (found_of c.args.matches.now) in
    let before = c.loop-place.seeds.items in
    let len : length before ≡ c.loop-place.place = c.loop-place.invariant.0 in
    let here : IsSeedAt rows (length before) c.in_ok-seed.seed = subst (λ (k : ℕ). IsSeedAt rows k c.in_ok-seed.seed) (sym len) c.in_ok-seed.ensures in
    subst (λ (seeds : List SeedAsked). (length seeds ≡ c.loop-place.place + 1) × ((k : ℕ) (seed : SeedAsked) → slice_get seeds k ≡ Some seed → IsSeedAt rows k seed)) (sym c.in_ok-push.ensures.items)
    (grind (arith, length_push before c.in_ok-seed.seed, len), one_more (IsSeedAt rows) before c.in_ok-seed.seed c.loop-place.invariant.1 here)
