-- Whether a name stands in a text, from one place on.
use Rattle.std.proofs.Common.{◌≡◌, ◌<◌, ◌≤◌, ◌+◌, ◌-◌, ◌||◌, nat_eq, ℕ, Bool, true, false, List, [], ◌∷◌, arith, drop, get_or, length, take, refl, sym, ap, ◌∙◌, subst}
use Rattle.std.specs.List.{starts_with}
use Rattle.std.proofs.lemmas.List.{drop_all, drop_more, length-drop, take_all}
use Rattle.bf_explain.specs.Variables.{stands_in}

at_first : (name : List ℕ) (all : List ℕ) (byte : ℕ) (rest : List ℕ) → all ≡ byte ∷ rest → stands_in name all ≡ (starts_with nat_eq all name || stands_in name rest)
unfolding stands_in
at_first name all byte rest is = subst (λ (xs : List ℕ). stands_in name xs ≡ (starts_with nat_eq xs name || stands_in name rest)) (sym is) refl

-- there, or further on
at_place : (name text : List ℕ) (place : ℕ) → place < length text → stands_in name (drop place text) ≡ (starts_with nat_eq (drop place text) name || stands_in name (drop (place + 1) text))
at_place name text place low = at_first name (drop place text) (get_or text place 0) (drop (place + 1) text) (drop_more text place 0 low)

-- the rest of a text from a place on, as a slice
whole : (text : List ℕ) (place : ℕ) → take (length text - place) (drop place text) ≡ drop place text
whole text place = take_all (length text - place) (drop place text) (omega (arith, length-drop place text))

pub stands_there : (name text : List ℕ) (place : ℕ) → place < length text → starts_with nat_eq (take (length text - place) (drop place text)) name ≡ true → stands_in name (drop place text) ≡ true
stands_there name text place low is = at_place name text place low ∙ ap (λ b. b || stands_in name (drop (place + 1) text)) (ap (λ (xs : List ℕ). starts_with nat_eq xs name) (sym (whole text place)) ∙ is)

pub stands_on : (name text : List ℕ) (place : ℕ) → place < length text → starts_with nat_eq (take (length text - place) (drop place text)) name ≡ false → stands_in name (drop place text) ≡ stands_in name (drop (place + 1) text)
stands_on name text place low is = at_place name text place low ∙ ap (λ b. b || stands_in name (drop (place + 1) text)) (ap (λ (xs : List ℕ). starts_with nat_eq xs name) (sym (whole text place)) ∙ is)

pub stands_nowhere : (name text : List ℕ) (place : ℕ) → length text ≤ place → stands_in name (drop place text) ≡ false
unfolding stands_in
stands_nowhere name text place high = ap (stands_in name) (drop_all place text high)
