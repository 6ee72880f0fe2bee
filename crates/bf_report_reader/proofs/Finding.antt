-- What memchr finds.
use Rattle.std.proofs.Common.{◌≡◌, ℕ, zero, suc, Bool, true, false, true≢false, if◌then◌else◌, List, [], ◌∷◌, Option, None, Some, option_map, position, refl, sym, ap, ◌∙◌, arith}
use Rattle.memchr.specs.Find.{IsFirstByte}
use Rattle.bf_plan.proofs.ListLemmas.{position_cons}

-- where the first byte passes, it is found
at_once : (test : ℕ → Bool) (x : ℕ) (xs : List ℕ) (found : Option ℕ) → test x ≡ true → IsFirstByte test (x ∷ xs) found → found ≡ Some 0
at_once test x xs None passes first = absurd (first 0 (omega arith) (omega arith) passes)
at_once test x xs (Some zero) passes first = refl
at_once test x xs (Some (suc k)) passes first = absurd (first.0.before 0 (omega arith) (omega arith) passes)

-- where it fails, what is found stands among the rest
later : (test : ℕ → Bool) (x : ℕ) (xs : List ℕ) (found : Option ℕ) → test x ≡ false → IsFirstByte test (x ∷ xs) found → (rest : Option ℕ) × (found ≡ option_map suc rest) × IsFirstByte test xs rest
later test x xs None fails first = (None, refl, λ k low high passes. first (suc k) (omega arith) (omega (arith, high)) passes)
later test x xs (Some zero) fails first = absurd (true≢false (sym first.1 ∙ fails))
later test x xs (Some (suc k)) fails first = (
  Some k,
  refl,
  (
    record { low = omega arith; high = (let high = first.0.high in omega (arith, high)); before = λ j low high passes. first.0.before (suc j) (omega arith) (omega (arith, high)) passes },
    first.1,
  ),
)

-- the first byte that passes is the one of `position`
pub first_is : (test : ℕ → Bool) (xs : List ℕ) (found : Option ℕ) → IsFirstByte test xs found → found ≡ position test xs
first_is test [] None first = refl
first_is test [] (Some k) first = absurd (let high = first.0.high in omega (arith, high))
first_is test (x ∷ xs) found first = by (test x) refl (λ rest first_of_rest. first_is test xs rest first_of_rest) ∙ sym (position_cons test x xs)
  where
    by : (b : Bool) → test x ≡ b → ((rest : Option ℕ) → IsFirstByte test xs rest → rest ≡ position test xs) → found ≡ (if test x then Some 0 else option_map suc (position test xs))
    by true passes rest_is = rw passes (at_once test x xs found passes first)
    by false fails rest_is = (let (rest, same, first_of_rest) = later test x xs found fails first in rw fails (same ∙ ap (option_map suc) (rest_is rest first_of_rest)))
