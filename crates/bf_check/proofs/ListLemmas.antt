-- Lists, looked at one after another.
use Rattle.std.proofs.Common.{◌≡◌, ◌⊎◌, inl, inr, ℕ, zero, suc, ◌<◌, ◌+◌, List, [], ◌∷◌, ◌++◌, length, get_or, slice_get, map, take, drop, Contains, subst, Bool, true, false, cond, Option, Some, None, is_none, option_map, refl, sym, ap, ◌∙◌, arith, add-one}
use Rattle.std.specs.List.{filter_map, join_with_byte, position, zip}
use Rattle.std.proofs.lemmas.Bool.{cases_lt}
use Rattle.std.proofs.lemmas.List.{append_assoc, get_or_default, map_push}
use Rattle.std.proofs.lemmas.Option.{get_or_from_slice_get, slice_get_read, slice_get_within}
use Rattle.std.proofs.Math.Seq.{take-suc}
use Rattle.bf_graph.proofs.Places.{none_passing}

pub map_then : {X Y Z : Type 0} (f : X → Y) (g : Y → Z) (xs : List X) → map g (map f xs) ≡ map (λ x. g (f x)) xs
map_then f g [] = refl
map_then f g (x ∷ xs) = ap (λ zs. g (f x) ∷ zs) (map_then f g xs)

-- a list that is mapped as far as i, and one more
pub map_more : {X Y : Type 0} (f : X → Y) (xs : List X) (i : ℕ) (d : X) (ys : List Y) (y : Y) → i < length xs → ys ≡ map f (take i xs) → y ≡ f (get_or xs i d) → ys ++ y ∷ [] ≡ map f (take (i + 1) xs)
map_more f xs i d ys y h so_far is =
    ap (λ zs. zs ++ y ∷ []) so_far ∙ ap (λ z. map f (take i xs) ++ z ∷ []) is ∙ sym (map_push f (take i xs) (get_or xs i d))
    ∙ ap (map f) (sym (take-suc xs i d h)) ∙ ap (λ n. map f (take n xs)) (sym (add-one i))

-- what holds of each as far as i, and of one more
pub each_so_far : {X : Type 0} (P : ℕ → X → Type 0) (xs : List X) (i : ℕ) (x : X) → i < length xs → x ≡ get_or xs i x → ((k : ℕ) (y : X) → k < i → slice_get xs k ≡ Some y → P k y) → P i x → (k : ℕ) (y : X) → k < i + 1 → slice_get xs k ≡ Some y → P k y
each_so_far P xs i x within is before here k y h there = elim (cases_lt k i) [
  | inl low ↦ before k y low there
  | inr high ↦
      let same : i ≡ k = omega (arith, h, high) in
      let item : slice_get xs i ≡ Some x = slice_get_read xs (length xs) i x refl within is in
      let one : x ≡ y = (let both = sym item ∙ ap (slice_get xs) same ∙ there in cc) in
      subst (λ (n : ℕ). P n y) same (subst (P i) one here)
]

pushed_at : {Y : Type 0} (ys : List Y) (y : Y) (s : ℕ) (b : Y) → slice_get (ys ++ y ∷ []) s ≡ Some b → (slice_get ys s ≡ Some b) ⊎ ((s ≡ length ys) × (y ≡ b))
pushed_at [] y zero b e = inr (refl, cc)
pushed_at [] y (suc s) b e = absurd (cc)
pushed_at (z ∷ ys) y zero b e = inl e
pushed_at (z ∷ ys) y (suc s) b e = elim (pushed_at ys y s b e) [
  | inl before ↦ inl before
  | inr here ↦ inr (ap suc here.0, here.1)
]

-- what holds of each two that stand at one place, and of two more
pub each_pushed : {X Y : Type 0} (P : ℕ → X → Y → Type 0) (xs : List X) (ys : List Y) (t : ℕ) (x : X) (y : Y) → length ys ≡ t → slice_get xs t ≡ Some x → ((s : ℕ) (a : X) (b : Y) → slice_get xs s ≡ Some a → slice_get ys s ≡ Some b → P s a b) → P t x y
    → (s : ℕ) (a : X) (b : Y) → slice_get xs s ≡ Some a → slice_get (ys ++ y ∷ []) s ≡ Some b → P s a b
each_pushed {X} {Y} P xs ys t x y long at before here s a b there found = elim (pushed_at ys y s b found) [
  | inl earlier ↦ before s a b there earlier
  | inr last ↦
      let place : t ≡ s = sym (last.0 ∙ long) in
      let one : x ≡ a = (let both = sym at ∙ ap (slice_get xs) place ∙ there in cc) in
      subst (λ (p : ℕ × X × Y). P p.0 p.1 p.2) (λ i. (place i, one i, last.1 i)) here
]

-- what stands at a place
pub item_at : {X : Type 0} (xs : List X) (k : ℕ) → k < length xs → (x : X) × (slice_get xs k ≡ Some x)
item_at [] k h = absurd (omega (arith, h))
item_at (x ∷ xs) zero h = (x, refl)
item_at (x ∷ xs) (suc k) h = item_at xs k (omega (arith, h))

pub item_contained : {X : Type 0} (xs : List X) (k : ℕ) (d : X) → k < length xs → Contains xs (get_or xs k d)
item_contained xs k d h = (k, h, get_or_default xs k (get_or xs k d) d h)

-- what is given or not by a test
pub none_by_test : {X : Type 0} (b : Bool) (x : X) → is_none (cond b None (Some x)) ≡ b
none_by_test true x = refl
none_by_test false x = refl

pub given_by_test : {X : Type 0} (b : Bool) (x y : X) → cond b None (Some x) ≡ Some y → y ≡ x
given_by_test true x y e = absurd (cc)
given_by_test false x y e = cc

pub none_mapped : {X Y : Type 0} (f : X → Y) (o : Option X) → is_none (option_map f o) ≡ is_none o
none_mapped f None = refl
none_mapped f (Some x) = refl

-- the one that comes next, of a list that is gone through
pub next_there : {X : Type 0} (before more : List X) (x : X) → slice_get (before ++ x ∷ more) (length before) ≡ Some x
next_there [] more x = refl
next_there (y ∷ before) more x = next_there before more x

pub next_contained : {X : Type 0} (before rest all more : List X) (x : X) → before ++ rest ≡ all → rest ≡ x ∷ more → Contains all x
next_contained before rest all more x left is =
    let there : slice_get all (length before) ≡ Some x = ap (λ xs. slice_get xs (length before)) (sym left ∙ ap (λ xs. before ++ xs) is) ∙ next_there before more x in
    (length before, slice_get_within all (length before) x there, get_or_from_slice_get all (length before) x x there)

-- ---- what was found of each

-- where nothing is missing, what is there is all
pub all_there : {X : Type 0} (found : List (Option X)) → position is_none found ≡ None → map Some (filter_map (λ one. one) found) ≡ found
all_there {X} found e = go found (none_passing is_none found None e)
  where
    go : (xs : List (Option X)) → ((k : ℕ) → k < length xs → is_none (get_or xs k None) ≡ false) → map Some (filter_map (λ one. one) xs) ≡ xs
    go [] there = refl
    go (None ∷ xs) there = absurd (let first = there 0 (omega arith) in cc)
    go (Some x ∷ xs) there = ap (λ ys. Some x ∷ ys) (go xs (λ k h. there (suc k) (omega (arith, h))))

head_same : {X : Type 0} (x y : X) (xs ys : List X) → x ∷ xs ≡ y ∷ ys → x ≡ y
head_same x y xs ys e = ap (λ zs. get_or zs 0 x) e

tail_same : {X : Type 0} (x y : X) (xs ys : List X) → x ∷ xs ≡ y ∷ ys → xs ≡ ys
tail_same x y xs ys e = ap (drop 1) e

-- each that was found, by what it was found by
pub each_found : {X Y : Type 0} (g : X → Option Y) (k : X → Y) (xs : List X) (ys : List Y) → map Some ys ≡ map g xs → ((x : X) (y : Y) → g x ≡ Some y → y ≡ k x) → ys ≡ map k xs
each_found g k [] [] e of = refl
each_found g k [] (y ∷ ys) e of = absurd (cc)
each_found g k (x ∷ xs) [] e of = absurd (cc)
each_found g k (x ∷ xs) (y ∷ ys) e of =
    let first : y ≡ k x = of x y (sym (head_same (Some y) (g x) (map Some ys) (map g xs) e)) in
    let rest : ys ≡ map k xs = each_found g k xs ys (tail_same (Some y) (g x) (map Some ys) (map g xs) e) of in
    ap (λ z. z ∷ ys) first ∙ ap (λ zs. k x ∷ zs) rest

-- the same, each made into something with what it was found by
pub each_made : {X Y Z : Type 0} (g : X → Option Y) (h : X × Y → Z) (k : X → Z) (xs : List X) (ys : List Y) → map Some ys ≡ map g xs → ((x : X) (y : Y) → g x ≡ Some y → h (x, y) ≡ k x) → map h (zip xs ys) ≡ map k xs
each_made g h k [] ys e of = refl
each_made g h k (x ∷ xs) [] e of = absurd (cc)
each_made g h k (x ∷ xs) (y ∷ ys) e of =
    let first : h (x, y) ≡ k x = of x y (sym (head_same (Some y) (g x) (map Some ys) (map g xs) e)) in
    let rest : map h (zip xs ys) ≡ map k xs = each_made g h k xs ys (tail_same (Some y) (g x) (map Some ys) (map g xs) e) of in
    ap (λ z. z ∷ map h (zip xs ys)) first ∙ ap (λ zs. k x ∷ zs) rest

-- each that was found, by where it stands
pub each_by_place : {X Y : Type 0} (k : X → Y) (xs : List X) (ys : List Y) → length ys ≡ length xs → ((t : ℕ) (x : X) (y : Y) → slice_get xs t ≡ Some x → slice_get ys t ≡ Some y → y ≡ k x) → ys ≡ map k xs
each_by_place k [] [] long of = refl
each_by_place k [] (y ∷ ys) long of = absurd (omega (arith, long))
each_by_place k (x ∷ xs) [] long of = absurd (omega (arith, long))
each_by_place k (x ∷ xs) (y ∷ ys) long of = ap (λ z. z ∷ ys) (of 0 x y refl refl) ∙ ap (λ zs. k x ∷ zs) (each_by_place k xs ys (omega (arith, long)) (λ t a b. of (suc t) a b))

pub zip_ended : {X Y : Type 0} (xs : List X) (ys : List Y) → (length xs ≡ 0) ⊎ (length ys ≡ 0) → zip xs ys ≡ []
zip_ended [] ys ended = refl
zip_ended (x ∷ xs) [] ended = refl
zip_ended (x ∷ xs) (y ∷ ys) (inl none) = absurd (omega (arith, none))
zip_ended (x ∷ xs) (y ∷ ys) (inr none) = absurd (omega (arith, none))

-- a pair of two lists
pub pair_at : {X Y : Type 0} (xs : List X) (ys : List Y) (k : ℕ) (x : X) (y : Y) → slice_get (zip xs ys) k ≡ Some (x, y) → (slice_get xs k ≡ Some x) × (slice_get ys k ≡ Some y)
pair_at [] ys k x y e = absurd (cc)
pair_at (a ∷ xs) [] k x y e = absurd (cc)
pair_at (a ∷ xs) (b ∷ ys) zero x y e = (ap (option_map (λ p. p.0)) e, ap (option_map (λ p. p.1)) e)
pair_at (a ∷ xs) (b ∷ ys) (suc k) x y e = pair_at xs ys k x y e

-- one text more, behind the byte
pub join_more : (c : ℕ) (x : List ℕ) (xs : List (List ℕ)) (y : List ℕ) → join_with_byte c (x ∷ xs ++ y ∷ []) ≡ join_with_byte c (x ∷ xs) ++ c ∷ y
join_more c x [] y = refl
join_more c x (z ∷ zs) y = ap (λ r. x ++ c ∷ r) (join_more c z zs y) ∙ sym (append_assoc x (c ∷ join_with_byte c (z ∷ zs)) (c ∷ y))
