-- Places, added one after another.
use Rattle.std.proofs.Common.{◌≡◌, ◌⊎◌, ℕ, zero, suc, ◌+◌, ◌<◌, List, [], ◌∷◌, ◌++◌, length, get_or, drop, drop-cons, add-one, map, Result, Ok, Err, OnOk, sym, ap, ◌∙◌, append_assoc, arith, inl, inr}
use Rattle.std.specs.List.{Contains}

pub on_ok : {A E P Q : Type 0} (r : Result A E) → OnOk r P → (P → Q) → OnOk r Q
on_ok (Ok x) p f = f p
on_ok (Err e) p f = p

-- the next of a list
pub next_added : {A B : Type 0} (f : A → B) (old now all : List B) (xs : List A) (i : ℕ) (d : A) → i < length xs → now ≡ old ++ f (get_or xs i d) ∷ [] → old ++ map f (drop i xs) ≡ all → now ++ map f (drop (i + 1) xs) ≡ all
next_added f old now all xs i d small e is =
    let step : drop i xs ≡ get_or xs i d ∷ drop (i + 1) xs = rw add-one (drop-cons xs i d small) in
    let rest : map f (drop i xs) ≡ f (get_or xs i d) ∷ map f (drop (i + 1) xs) = ap (map f) step in
    ap (λ ys. ys ++ map f (drop (i + 1) xs)) e ∙ append_assoc old (f (get_or xs i d) ∷ []) (map f (drop (i + 1) xs)) ∙ sym (ap (λ ys. old ++ ys) rest) ∙ is

-- one, and four lists behind it
pub joined : {A : Type 0} (old p q r s t k o u w : List A) (x : A) → p ≡ old ++ x ∷ [] → q ≡ p ++ k → r ≡ q ++ o → s ≡ r ++ u → t ≡ s ++ w → t ≡ old ++ x ∷ (k ++ (o ++ (u ++ w)))
joined old p q r s t k o u w x e1 e2 e3 e4 e5 =
    e5 ∙ ap (λ ys. ys ++ w) (e4 ∙ ap (λ ys. ys ++ u) (e3 ∙ ap (λ ys. ys ++ o) (e2 ∙ ap (λ ys. ys ++ k) e1)))
    ∙ append_assoc (((old ++ x ∷ []) ++ k) ++ o) u w
    ∙ append_assoc ((old ++ x ∷ []) ++ k) o (u ++ w)
    ∙ append_assoc (old ++ x ∷ []) k (o ++ (u ++ w))
    ∙ append_assoc old (x ∷ []) (k ++ (o ++ (u ++ w)))

pub cons_cases : {X : Type 0} (y : X) (ys : List X) (x : X) (k : ℕ) → k < length (y ∷ ys) → get_or (y ∷ ys) k x ≡ x → (y ≡ x) ⊎ Contains ys x
cons_cases y ys x zero small e = inl e
cons_cases y ys x (suc k) small e = inr (k, omega (arith, small), e)
