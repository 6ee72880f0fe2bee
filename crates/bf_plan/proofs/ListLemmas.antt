-- Lists, looked at one after another.
use Rattle.std.proofs.Common.{◌≡◌, ◌∙◌, ap, refl, arith, ℕ, suc, ◌+◌, List, ◌∷◌, length, position, Contains, Bool, true, false, not, cond, if◌then◌else◌, nat_lt, Some, None, option_map, unwrap_or}
use Rattle.std.specs.List.{list_any, position_or_len}
use Rattle.std.proofs.lemmas.Bool.{ltb-true, ltb-false, lt-ltb, le-ltb}
use Rattle.std.proofs.lemmas.List.Folds.{list_any_at}

-- a test that passes one of the list
pub any_contained : {X : Type 0} (p : X → Bool) (xs : List X) (x : X) → Contains xs x → p x ≡ true → list_any p xs ≡ true
any_contained p xs x (k, within, is) passes = list_any_at p xs k x within (ap p is ∙ passes)

pub some_same : {X : Type 0} {x y : X} → Some x ≡ Some y → x ≡ y
some_same {x = x} e = ap (λ o. unwrap_or o x) e

-- the first that passes, of a list with one more before it
pub position_cons : {X : Type 0} (p : X → Bool) (x : X) (xs : List X) → position p (x ∷ xs) ≡ (if p x then Some 0 else option_map suc (position p xs))
position_cons p x xs = by (p x)
  where
    n : ℕ
    n = position_or_len p xs

    one_more : (b : Bool) → nat_lt n (length xs) ≡ b → nat_lt (1 + n) (length (x ∷ xs)) ≡ b
    one_more true e = (let low = ltb-true n (length xs) e in lt-ltb (1 + n) (length (x ∷ xs)) (omega (arith, low)))
    one_more false e = (let high = ltb-false n (length xs) e in le-ltb (1 + n) (length (x ∷ xs)) (omega (arith, high)))

    same : (b : Bool) → nat_lt n (length xs) ≡ b → cond (nat_lt (1 + n) (length (x ∷ xs))) (Some (1 + n)) None ≡ option_map suc (cond (nat_lt n (length xs)) (Some n) None)
    same true e = rw (one_more true e, e) (ap Some (omega arith))
    same false e = rw (one_more false e, e) refl

    by : (b : Bool) → (let k = cond (not b) (1 + n) 0 in cond (nat_lt k (length (x ∷ xs))) (Some k) None) ≡ (if b then Some 0 else option_map suc (position p xs))
    by true = rw (lt-ltb 0 (length (x ∷ xs)) (omega arith)) refl
    by false = same _ refl
