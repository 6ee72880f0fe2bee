-- What is said of a name by pairs that are taken in order.
use Rattle.std.proofs.Common.{◌≡◌, ◌≢◌, ℕ, ℤ, ◌+◌, ◌<◌, Bool, true, false, List, [], ◌∷◌, ◌++◌, length, take, get_or, Option, None, Some, if◌then◌else◌, refl, sym, ap, ◌∙◌, subst, true≢false}
use Rattle.std.specs.Cmp.Lexicographic.{bytes_decides}
use Rattle.std.specs.Str.{bytes_eq}
use Rattle.std.proofs.lemmas.List.{map_more}
use Rattle.std.proofs.lemmas.List.Sums.{fold-append}
use Rattle.bf_words.specs.declared.context.JobContext.{JobContext}
use Rattle.bf_process.specs.declared.variable.Variable.{Variable}
use Rattle.bf_process.specs.declared.variable.Variable.TheVariants.{DagId}
use Rattle.bf_process.specs.Environment.{environment_of, given_pair, pairs_of, variable_name, variable_value, variables_of, Pair}
use Rattle.bf_process.specs.inner.Environment.{said_after}

abbrev Said : Type 0
Said = Option (Option (List ℕ))

pub said_none : (name : List ℕ) (before : Said) → before ≡ said_after name before []
unfolding said_after
said_none name before = refl

pub said_one : (name : List ℕ) (value : Option (List ℕ)) (old new : List ℕ → Said) → new name ≡ Some value → ((k : List ℕ) → k ≢ name → new k ≡ old k) → (k : List ℕ) → new k ≡ said_after k (old k) ((name, value) ∷ [])
unfolding said_after
said_one name value old new is others k = by (bytes_eq name k) refl
  where
    by : (b : Bool) → bytes_eq name k ≡ b → new k ≡ (if b then Some value else old k)
    by true e = ap new (sym ((bytes_decides name k).0 e)) ∙ is
    by false e = others k (λ same. true≢false (sym ((bytes_decides name k).1 (sym same)) ∙ e))

pub said_more : (name : List ℕ) (before said new : Said) (first rest : List Pair) → said ≡ said_after name before first → new ≡ said_after name said rest → new ≡ said_after name before (first ++ rest)
unfolding said_after
said_more name before said new first rest is next = next ∙ ap (λ s. said_after name s rest) is ∙ sym (fold-append (λ s pair. if bytes_eq pair.0 name then Some pair.1 else s) before first rest)

-- one more of the variables that each try has
pub pairs_more : (try : JobContext) (clock : ℤ) (i : ℕ) → i < length variables_of → pairs_of try clock (take (i + 1) variables_of) ≡ pairs_of try clock (take i variables_of) ++ (variable_name (get_or variables_of i DagId), Some (variable_value try clock (get_or variables_of i DagId))) ∷ []
pairs_more try clock i within = map_more (λ v. (variable_name v, Some (variable_value try clock v))) variables_of i DagId within

pub said_next : (try : JobContext) (clock : ℤ) (all : List Variable) (i : ℕ) → all ≡ variables_of → i < length all → (name n v : List ℕ) (before said new : Said) → said ≡ said_after name before (pairs_of try clock (take i variables_of))
    → n ≡ variable_name (get_or all i DagId) → v ≡ variable_value try clock (get_or all i DagId) → new ≡ said_after name said ((n, Some v) ∷ []) → new ≡ said_after name before (pairs_of try clock (take (i + 1) variables_of))
said_next try clock all i same within name n v before said new is named valued next =
    said_more name before said new (pairs_of try clock (take i variables_of)) _ is (
    next
    ∙ ap (λ a. said_after name said ((a, Some v) ∷ [])) (named ∙ ap (λ (xs : List Variable). variable_name (get_or xs i DagId)) same)
    ∙ ap (λ b. said_after name said ((variable_name (get_or variables_of i DagId), Some b) ∷ [])) (valued ∙ ap (λ (xs : List Variable). variable_value try clock (get_or xs i DagId)) same)
    ) ∙ ap (said_after name before) (sym (pairs_more try clock i (subst (λ (xs : List Variable). i < length xs) same within)))

-- ---- with what a try was given, or without it

pub said_given : (try : JobContext) (clock : ℤ) (given said_of : Option (List ℕ)) → said_of ≡ given → (name : List ℕ) (before said new : Said) → said ≡ said_after name before (pairs_of try clock variables_of)
    → new ≡ said_after name said (given_pair said_of ∷ []) → new ≡ said_after name before (environment_of try clock given)
unfolding environment_of
said_given try clock given said_of same name before said new is next =
    said_more name before said new (pairs_of try clock variables_of) (given_pair said_of ∷ []) is next
    ∙ ap (said_after name before) (ap (λ (g : Option (List ℕ)). pairs_of try clock variables_of ++ given_pair g ∷ []) same)
