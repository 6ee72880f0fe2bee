-- Lists and objects of values, and the data that they stand for.
use Rattle.std.proofs.Common.{◌≡◌, ℕ, suc, min, ◌||◌, Bool, List, [], ◌∷◌, length, take, map, Option, None, Some, IfNone, IfSome, String, Global, refl, ap, ◌∙◌, sym, subst}
use Rattle.std.specs.List.{list_any, filter_map, cons_option}
use Rattle.std.proofs.lemmas.List.{take-map, take_min}
use Rattle.serde_json.specs.Data.{Data}
use Rattle.serde_json.specs.Events.{members_len}
use Rattle.serde_json.specs.View.{view, items_view, members_view}
use Rattle.serde_json.specs.declared.value.Value.{Value}
use Rattle.bf_findings.specs.Fitting.{list_of}
use Rattle.bf_findings.specs.Names.{id_known}

pub list_viewed : (vs : List Value) → list_of (items_view vs) ≡ map view vs
list_viewed [] = refl
list_viewed (v ∷ vs) = ap (λ ds. view v ∷ ds) (list_viewed vs)

pub any_viewed : (p : Data → Bool) (vs : List Value) → list_any p (map view vs) ≡ list_any (λ v. p (view v)) vs
any_viewed p [] = refl
any_viewed p (v ∷ vs) = ap (λ b. p (view v) || b) (any_viewed p vs)

pub length_viewed : (vs : List Value) → length (map view vs) ≡ length vs
length_viewed [] = refl
length_viewed (v ∷ vs) = ap suc (length_viewed vs)

pub items_counted : (vs : List Value) → length (list_of (items_view vs)) ≡ length vs
items_counted vs = ap length (list_viewed vs) ∙ length_viewed vs

pub members_counted : (es : List (String Global × Value)) → members_len (members_view es) ≡ length es
members_counted [] = refl
members_counted (e ∷ es) = ap suc (members_counted es)

-- the first n tasks, as many as there are
pub first_viewed : (n : ℕ) (vs : List Value) → map view (take (min n (length vs)) vs) ≡ take n (map view vs)
first_viewed n vs = ap (map view) (take_min n vs) ∙ sym (take-map view n vs)

-- what a test gives of each value
pub filter_viewed : {X : Type 0} (h : Data → Option X) (vs : List Value) → filter_map h (map view vs) ≡ filter_map (λ v. h (view v)) vs
filter_viewed h [] = refl
filter_viewed h (v ∷ vs) = ap (cons_option (h (view v))) (filter_viewed h vs)

-- the id of a task, where it has one
abbrev pub id_of : Value → Option (List ℕ)
id_of v = id_known (view v)

pub one_found : {X : Type 0} (P : X → Type 0) (o : Option X) (x : X) → o ≡ Some x → IfSome o P → P x
one_found P None x is h = cc
one_found P (Some y) x is h = let same : y ≡ x = cc in subst P same h

pub none_found : (P : Type 0) {X : Type 0} (o : Option X) → o ≡ None → IfNone o P → P
none_found P None is h = h
none_found P (Some y) is h = absurd (cc)
