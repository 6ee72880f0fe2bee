-- Lists of values that may be missing.
use Rattle.std.proofs.Common.{◌≡◌, ◌∙◌, ◌<◌, ℕ, List, Option, Some, None, length, map, get_or, sym, ap, arith}
use Rattle.std.specs.Prelude.{IfSome}
use Rattle.std.proofs.lemmas.List.{length-map, get_or-map}
use Rattle.bf_value.specs.Views.{list_of}
use Rattle.bf_value.specs.declared.xval.Xval.{Xval}
use Rattle.bf_journal.specs.Records.{optional_value_of}
use Rattle.bf_journal.specs.inner.Tells.{IsFound}
use Rattle.bf_journal.proofs.Telling.{items_back, items_in}

-- what is such a thing is one of the other kind, and the other way round
pub found_alike : {X : Type 0} (P Q : X → Type 0) → ((x : X) → P x → Q x) → ((x : X) → Q x → P x) → (o : Option X) → IsFound P o → IsFound Q o
found_alike P Q there back None none = λ x is. none x (back x is)
found_alike P Q there back (Some x) is = there x is

-- what holds of a value that may be there still holds where less is said
pub some_weaker : {X : Type 0} (P Q : X → Type 0) → ((x : X) → P x → Q x) → (o : Option X) → IfSome o P → IfSome o Q
some_weaker P Q there None none = tt
some_weaker P Q there (Some x) is = there x is

-- where one is no list of a value or of none, no values make them
pub none_listed : (values : List Xval) (k : ℕ) (x : Xval) → k < length values → x ≡ get_or values k x → ((o : Option Xval) → x ≡ optional_value_of o → ⊥) → (all : List (Option Xval)) → values ≡ map optional_value_of all → ⊥
none_listed values k x within is none all are =
    let inside : k < length all = omega (arith, within, ap length are, length-map all optional_value_of) in
    none (get_or all k None) (is ∙ ap (λ l. get_or l k x) are ∙ get_or-map optional_value_of all k None x inside)

-- two lists of values are one where they make one value
pub same_items : (xs ys : List Xval) → list_of xs ≡ list_of ys → xs ≡ ys
same_items xs ys same = sym (items_back xs) ∙ ap items_in same ∙ items_back ys
