-- What is given of the items of a list, one item after another.
use Rattle.std.proofs.Common.{◌≡◌, ℕ, ◌<◌, ◌+◌, List, [], ◌∷◌, ◌++◌, length, get_or, take, Option, Some, None, sym, ap, ap₂, ◌∙◌}
use Rattle.std.specs.List.{cons_option, filter_map}
use Rattle.std.proofs.lemmas.List.{take_more, append-nil}
use Rattle.std.proofs.lemmas.List.Elements.{filter_map-append}

-- with one item more behind, what is given of that comes behind
pub one_behind : {X Y : Type 0} (h : X → Option Y) (xs : List X) (x : X) (y : Y) (ys : List Y) → h x ≡ Some y → ys ≡ filter_map h xs → ys ++ y ∷ [] ≡ filter_map h (xs ++ x ∷ [])
one_behind h xs x y ys gives so_far = sym (filter_map-append h xs (x ∷ []) ∙ ap₂ (λ zs o. zs ++ cons_option o []) (sym so_far) gives)

pub none_behind : {X Y : Type 0} (h : X → Option Y) (xs : List X) (x : X) (ys : List Y) → h x ≡ None → ys ≡ filter_map h xs → ys ≡ filter_map h (xs ++ x ∷ [])
none_behind h xs x ys gives so_far = sym (filter_map-append h xs (x ∷ []) ∙ ap₂ (λ zs o. zs ++ cons_option o []) (sym so_far) gives ∙ append-nil ys)

-- the same of the item at a place
take_one : {X : Type 0} (xs : List X) (i : ℕ) (x : X) → i < length xs → x ≡ get_or xs i x → take i xs ++ x ∷ [] ≡ take (i + 1) xs
take_one xs i x within is = sym (take_more xs i x within ∙ ap (λ y. take i xs ++ y ∷ []) (sym is))

pub one_more : {X Y : Type 0} (h : X → Option Y) (xs : List X) (i : ℕ) (x : X) (y : Y) (ys : List Y) → i < length xs → x ≡ get_or xs i x → h x ≡ Some y → ys ≡ filter_map h (take i xs) → ys ++ y ∷ [] ≡ filter_map h (take (i + 1) xs)
one_more h xs i x y ys within is gives so_far = one_behind h (take i xs) x y ys gives so_far ∙ ap (filter_map h) (take_one xs i x within is)

pub none_more : {X Y : Type 0} (h : X → Option Y) (xs : List X) (i : ℕ) (x : X) (ys : List Y) → i < length xs → x ≡ get_or xs i x → h x ≡ None → ys ≡ filter_map h (take i xs) → ys ≡ filter_map h (take (i + 1) xs)
none_more h xs i x ys within is gives so_far = none_behind h (take i xs) x ys gives so_far ∙ ap (filter_map h) (take_one xs i x within is)
