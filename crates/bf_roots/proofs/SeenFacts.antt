-- Places where the walk has been, and how many are left.
use Rattle.std.proofs.Common.{◌≡◌, ◌<◌, ◌+◌, ℕ, zero, suc, Bool, true, false, true≢false, List, [], ◌∷◌, length, refl, ap, arith}
use Rattle.std.specs.Prelude.{slice_index_or, slice_set}
use Rattle.bf_roots.specs.Walks.{is_seen_in, with_seen}

abbrev pub unseen_in_row : List Bool → ℕ
unseen_in_row [] = 0
unseen_in_row (true ∷ row) = unseen_in_row row
unseen_in_row (false ∷ row) = suc (unseen_in_row row)

-- how many places are left
abbrev pub unseen_in : List (List Bool) → ℕ
unseen_in [] = 0
unseen_in (row ∷ rows) = unseen_in_row row + unseen_in rows

one_less_in_row : (row : List Bool) (task : ℕ) → slice_index_or row task true ≡ false → suc (unseen_in_row (slice_set row task true)) ≡ unseen_in_row row
one_less_in_row [] task unseen = absurd (true≢false unseen)
one_less_in_row (true ∷ row) zero unseen = absurd (true≢false unseen)
one_less_in_row (false ∷ row) zero unseen = refl
one_less_in_row (true ∷ row) (suc task) unseen = one_less_in_row row task unseen
one_less_in_row (false ∷ row) (suc task) unseen = ap suc (one_less_in_row row task unseen)

pub one_less : (rows : List (List Bool)) (run task : ℕ) → is_seen_in rows run task ≡ false → suc (unseen_in (with_seen rows run task)) ≡ unseen_in rows
one_less [] run task unseen = absurd (true≢false unseen)
one_less (row ∷ rows) zero task unseen = omega (arith, one_less_in_row row task unseen)
one_less (row ∷ rows) (suc run) task unseen = omega (arith, one_less rows run task unseen)

pub is_task : (row : List Bool) (task : ℕ) → slice_index_or row task true ≡ false → task < length row
is_task [] task unseen = absurd (true≢false unseen)
is_task (seen ∷ row) zero unseen = omega arith
is_task (seen ∷ row) (suc task) unseen = omega (arith, is_task row task unseen)

pub is_run : (rows : List (List Bool)) (run task : ℕ) → is_seen_in rows run task ≡ false → run < length rows
is_run [] run task unseen = absurd (true≢false unseen)
is_run (row ∷ rows) zero task unseen = omega arith
is_run (row ∷ rows) (suc run) task unseen = omega (arith, is_run rows run task unseen)
