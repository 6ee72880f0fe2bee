-- The order of places: by run, task and map index.
use Rattle.std.specs.Prelude.{◌≡◌, ℤ, Option, Some, None}
use Rattle.std.proofs.Common.{refl, ap, Ordering, Less, Equal, Greater}
use Rattle.std.specs.Option.{option_cmp}
use Rattle.std.specs.Ordering.{nat_cmp, int_cmp, ordering_then}
use Rattle.std.specs.Cmp.{IsTotalOrder, nat_cmp_total, int_cmp_total, then_total, on_total}
use Rattle.std.specs.Cmp.Lexicographic.{options_total}
use Rattle.std.specs.FinMap.{IsAntisymmetric, nat_cmp-IsAntisymmetric, int_cmp-IsAntisymmetric}
use Rattle.bf_dependents.specs.Places.{place_cmp}

pub place_cmp_total : IsTotalOrder place_cmp
place_cmp_total =
    then_total (on_total (λ p. p.run) nat_cmp_total)
    (then_total (on_total (λ p. p.task) nat_cmp_total)
    (on_total (λ p. p.index) (options_total int_cmp_total)))

both-equal : (r s : Ordering) → ordering_then r s ≡ Equal → (r ≡ Equal) × (s ≡ Equal)
both-equal Less s e = (e, cc)
both-equal Equal s e = (refl, e)
both-equal Greater s e = (e, cc)

option-same : (a b : Option ℤ) → option_cmp int_cmp a b ≡ Equal → a ≡ b
option-same None None e = refl
option-same None (Some b) e = cc
option-same (Some a) None e = cc
option-same (Some a) (Some b) e = ap Some (int_cmp-IsAntisymmetric a b e)

pub place_cmp-IsAntisymmetric : IsAntisymmetric place_cmp
place_cmp-IsAntisymmetric a b e =
    let p : _ = both-equal (nat_cmp a.run b.run) _ e in
    let q : _ = both-equal (nat_cmp a.task b.task) _ p.1 in
    let run : a.run ≡ b.run = nat_cmp-IsAntisymmetric _ _ p.0 in
    let task : a.task ≡ b.task = nat_cmp-IsAntisymmetric _ _ q.0 in
    let index : a.index ≡ b.index = option-same _ _ q.1 in
    λ i. record { run = run i; task = task i; index = index i }
