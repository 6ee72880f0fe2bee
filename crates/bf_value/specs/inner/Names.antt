-- The order of names: by run, task, index and try.
use Rattle.std.specs.Prelude.{◌≡◌}
use Rattle.std.proofs.Common.{refl, Ordering, Less, Equal, Greater}
use Rattle.std.specs.Ordering.{nat_cmp, int_cmp, ordering_then}
use Rattle.std.specs.Cmp.{IsTotalOrder, nat_cmp_total, int_cmp_total, then_total, on_total}
use Rattle.std.specs.FinMap.{IsAntisymmetric, nat_cmp-IsAntisymmetric, int_cmp-IsAntisymmetric}
use Rattle.bf_value.specs.Names.{name_cmp}

pub name_cmp_total : IsTotalOrder name_cmp
name_cmp_total =
    then_total (on_total (λ n. n.run) nat_cmp_total)
    (then_total (on_total (λ n. n.task) nat_cmp_total)
    (then_total (on_total (λ n. n.index) int_cmp_total) (on_total (λ n. n.attempt) nat_cmp_total)))

both-equal : (r s : Ordering) → ordering_then r s ≡ Equal → (r ≡ Equal) × (s ≡ Equal)
both-equal Less s e = (e, cc)
both-equal Equal s e = (refl, e)
both-equal Greater s e = (e, cc)

pub name_cmp-IsAntisymmetric : IsAntisymmetric name_cmp
name_cmp-IsAntisymmetric a b e =
    let p : _ = both-equal (nat_cmp a.run b.run) _ e in
    let q : _ = both-equal (nat_cmp a.task b.task) _ p.1 in
    let r : _ = both-equal (int_cmp a.index b.index) _ q.1 in
    let run : a.run ≡ b.run = nat_cmp-IsAntisymmetric _ _ p.0 in
    let task : a.task ≡ b.task = nat_cmp-IsAntisymmetric _ _ q.0 in
    let index : a.index ≡ b.index = int_cmp-IsAntisymmetric _ _ r.0 in
    let attempt : a.attempt ≡ b.attempt = nat_cmp-IsAntisymmetric _ _ r.1 in
    λ i. record { run = run i; task = task i; index = index i; attempt = attempt i }
