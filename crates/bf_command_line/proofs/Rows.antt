-- The values of an argument, by its row.
use Rattle.std.proofs.Common.{◌≡◌, ◌<◌, ◌≤◌, ℕ, zero, suc, get_or, arith, MatchOption, IfSome, List, [], ◌∷◌, ◌++◌, length, map, Bor, Option, Some, None, refl, ap, ◌∙◌, subst}
use Rattle.std.specs.Prelude.{slice_get, unwrap_or, option_map}
use Rattle.clap.specs.Matches.{matched_of, raw_values}
use Rattle.clap.specs.Words.{Text, first_value, first_of, rows_of}
use Rattle.clap.specs.declared.parser.matches.Found.{Found}
use Rattle.clap.proofs.WalkLemmas.{first_value-rows, raw_values-rows}
use Rattle.bf_command_line.specs.Asked.{texts_in}

pub first_rows : (f : Found) (id : Text) → first_value f id ≡ first_of id (rows_of f)
first_rows f id = first_value-rows f id

-- what the getter of all values gives
abbrev pub GivesAll : Found → Text → Option (List Text) → Type 0
GivesAll f id given = given ≡ option_map raw_values (matched_of f id)

pub all_of_found : (f : Found) (id : Text) (given : Option (List Text)) → GivesAll f id given → unwrap_or given [] ≡ texts_in id (rows_of f)
all_of_found f id given is = ap (λ (o : Option (List Text)). unwrap_or o []) (is ∙ raw_values-rows f id)

-- with one more at the end, each is as it is to be
pub one_more : {X : Type 0} (Is : ℕ → X → Type 0) (xs : List X) (x : X) → ((k : ℕ) (y : X) → slice_get xs k ≡ Some y → Is k y) → Is (length xs) x →
    (k : ℕ) (y : X) → slice_get (xs ++ x ∷ []) k ≡ Some y → Is k y
one_more Is [] x each here zero y is = subst (Is 0) (cc) here
one_more Is [] x each here (suc k) y is = cc
one_more Is (z ∷ xs) x each here zero y is = each 0 y is
one_more Is (z ∷ xs) x each here (suc k) y is = one_more (λ j. Is (suc j)) xs x (λ j w. each (suc j) w) here k y is

pub get_map : {X Y : Type 0} (f : X → Y) (xs : List X) (k : ℕ) → option_map f (slice_get xs k) ≡ slice_get (map f xs) k
get_map f [] k = refl
get_map f (x ∷ xs) zero = refl
get_map f (x ∷ xs) (suc k) = get_map f xs k

here_at : {X : Type 0} (xs : List X) (k : ℕ) (x : X) → k < length xs → x ≡ get_or xs k x → Some x ≡ slice_get xs k
here_at [] k x low is = absurd (omega arith)
here_at (y ∷ ys) zero x low is = ap Some is
here_at (y ∷ ys) (suc k) x low is = here_at ys k x (omega arith) is

none_at : {X : Type 0} (xs : List X) (k : ℕ) → length xs ≤ k → None ≡ slice_get xs k
none_at [] k past = refl
none_at (y ∷ ys) zero past = absurd (omega arith)
none_at (y ∷ ys) (suc k) past = none_at ys k (omega arith)

-- what is looked up by reference
pub looked_up : {X : Type 0} (Q : Bor X → Type 0) (xs : List X) (k : ℕ) (r : Option (Bor X)) → IfSome r (λ x. x.now ≡ get_or xs k x.now) → MatchOption r (length xs ≤ k) (λ x. (k < length xs) × Q x)
    → option_map (λ x. x.now) r ≡ slice_get xs k
looked_up Q xs k None is within = none_at xs k within
looked_up Q xs k (Some x) is within = here_at xs k x.now within.0 is

-- what is found has these parts
pub both : {X A B : Type 0} (pair : X → A × B) (o : Option X) (a : A) (b : B) → option_map (λ x. (pair x).0) o ≡ Some a → option_map (λ p. p.1) (option_map pair o) ≡ Some b → option_map pair o ≡ Some (a, b)
both pair None a b first second = cc
both pair (Some x) a b first second =
    let p : (pair x).0 ≡ a = cc in
    let q : (pair x).1 ≡ b = cc in
    λ i. Some (p i, q i)
