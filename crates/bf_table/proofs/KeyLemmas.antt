-- The patterns of a try are those of the entries that answer for it.
use Rattle.std.proofs.Common.{◌≡◌, ℕ, suc, ◌==◌, ℤ, pos, Bool, true, false, ◌&&◌, ◌||◌, if◌then◌else◌, List, [], ◌∷◌, length, get_or, slice_get, Option, Some, None, is_some, option_map, option_and_then, Ordering, Less, Equal, Greater, refl, sym, ap, ap₂, ◌∙◌, arith, true≢false}
use Rattle.std.specs.Bool.{then_some}
use Rattle.std.specs.BTreeMap as tree
use Rattle.std.specs.List.{find, list_any, position}
use Rattle.std.specs.Option.{option_cmp}
use Rattle.std.specs.Ordering.{nat_cmp, int_cmp, int_eq, ordering_then, is_eq}
use Rattle.std.specs.Str.{bytes_eq}
use Rattle.std.specs.Cmp.{IsTotalOrder, Equal-is, nat_cmp_total, int_cmp_total, eq_by_cmp_equiv, signed_Decides}
use Rattle.std.specs.Cmp.Lexicographic.{slice_cmp, lists_total}
use Rattle.std.specs.FinMap.{IsAntisymmetric, nat_cmp-IsAntisymmetric, int_cmp-IsAntisymmetric, slice_cmp-IsAntisymmetric}
use Rattle.std.proofs.lemmas.List.Folds.{list_any-append}
use Rattle.std.proofs.lemmas.List.Quantifiers.{position-Some}
use Rattle.std.proofs.lemmas.Slice.Eq.{bytes_eq-Decides}
use Rattle.bf_value.specs.declared.name.JobName.{JobName}
use Rattle.bf_plan.proofs.ListLemmas.{some_same}
use Rattle.bf_table.specs.declared.table.TableEntry.{TableEntry}
use Rattle.bf_table.specs.declared.table_index.NamedParts.{NamedParts}
use Rattle.bf_table.specs.declared.table_index.Pattern.{Pattern}
use Rattle.bf_table.specs.declared.table_index.TableIndex.{TableIndex}
use Rattle.bf_table.specs.Tables.{answers_for_in, matches_number_in, matches_text_in}
use Rattle.bf_table.specs.TableIndex.{date_named, is_pattern, number_named, parts_named_in, pattern_cmp, pattern_in, AreFirstsOf, IsIndexOf}
use Rattle.bf_table.specs.inner.TableIndex.{earlier_place_of, first_of_keys, keys_of, keys_with_date, keys_with_index, keys_with_task, pattern_of_try}
use Rattle.bf_plan.proofs.ListLemmas.{position_cons}
use Rattle.bf_try.proofs.Pushes.{same_answer}

-- ---- the first that passes

never_passes : {X : Type 0} (xs : List X) → position (λ x. false) xs ≡ None
never_passes [] = refl
never_passes (x ∷ xs) = position_cons (λ y. false) x xs ∙ ap (option_map suc) (never_passes xs)

either : (a b : Bool) (m n : Option ℕ) → (if a || b then Some 0 else option_map suc (earlier_place_of m n)) ≡ earlier_place_of (if a then Some 0 else option_map suc m) (if b then Some 0 else option_map suc n)
either true true m n = refl
either true false m None = refl
either true false m (Some n) = ap Some (omega arith)
either false true None n = refl
either false true (Some m) n = ap Some (omega arith)
either false false None None = refl
either false false None (Some n) = refl
either false false (Some m) None = refl
either false false (Some m) (Some n) = ap Some (omega arith)

one_passes : {X : Type 0} (p q : X → Bool) (xs : List X) → position (λ x. p x || q x) xs ≡ earlier_place_of (position p xs) (position q xs)
one_passes p q [] = refl
one_passes p q (x ∷ xs) =
    position_cons (λ y. p y || q y) x xs ∙ ap (λ o. if p x || q x then Some 0 else option_map suc o) (one_passes p q xs)
    ∙ either (p x) (q x) (position p xs) (position q xs) ∙ ap₂ earlier_place_of (sym (position_cons p x xs)) (sym (position_cons q x xs))

find_passing : {X : Type 0} (p : X → Bool) (xs : List X) → find p xs ≡ option_and_then (slice_get xs) (position p xs)
find_passing p [] = refl
find_passing p (x ∷ xs) = by (p x) (position p xs) (find_passing p xs) ∙ ap (option_and_then (slice_get (x ∷ xs))) (sym (position_cons p x xs))
  where
    by : (b : Bool) (o : Option ℕ) → find p xs ≡ option_and_then (slice_get xs) o → (if b then Some x else find p xs) ≡ option_and_then (slice_get (x ∷ xs)) (if b then Some 0 else option_map suc o)
    by true o e = refl
    by false None e = e
    by false (Some n) e = e

-- what is found for keys is the first that has one of them
first_of_any : (ids : List (List ℕ)) (entries : List TableEntry) (firsts : tree.BTreeMap Pattern ℕ) (keys : List Pattern) → AreFirstsOf ids entries firsts
    → first_of_keys (tree.get pattern_cmp firsts) keys ≡ position (λ e. list_any (λ key. is_pattern key (pattern_in ids e)) keys) entries
first_of_any ids entries firsts [] index = sym (never_passes entries)
first_of_any ids entries firsts (key ∷ keys) index =
    ap₂ earlier_place_of (index key) (first_of_any ids entries firsts keys index)
    ∙ sym (one_passes (λ e. is_pattern key (pattern_in ids e)) (λ e. list_any (λ k. is_pattern k (pattern_in ids e)) keys) entries)

-- ---- sixteen keys

both_equal : (r s : Ordering) → is_eq (ordering_then r s) ≡ (is_eq r && is_eq s)
both_equal Less s = refl
both_equal Equal s = refl
both_equal Greater s = refl

list_any_same : {X : Type 0} (p q : X → Bool) (xs : List X) → ((x : X) → p x ≡ q x) → list_any p xs ≡ list_any q xs
list_any_same p q [] same = refl
list_any_same p q (x ∷ xs) same = ap₂ (λ a b. a || b) (same x) (list_any_same p q xs same)

none_passes : {X : Type 0} (xs : List X) → list_any (λ x. false) xs ≡ false
none_passes [] = refl
none_passes (x ∷ xs) = none_passes xs

last_part : (x y z n s : Bool) → ((x && (y && (z && n))) || ((x && (y && (z && s))) || false)) ≡ (x && (y && (z && (n || s))))
last_part false y z n s = refl
last_part true false z n s = refl
last_part true true false n s = refl
last_part true true true true s = refl
last_part true true true false true = refl
last_part true true true false false = refl

third_part : (x y n s r : Bool) → ((x && (y && (n && r))) || (x && (y && (s && r)))) ≡ (x && (y && ((n || s) && r)))
third_part false y n s r = refl
third_part true false n s r = refl
third_part true true false s r = refl
third_part true true true s true = refl
third_part true true true true false = refl
third_part true true true false false = refl

second_part : (x n s r : Bool) → ((x && (n && r)) || (x && (s && r))) ≡ (x && ((n || s) && r))
second_part x n s r = third_part true x n s r

first_part : (n s r : Bool) → ((n && r) || (s && r)) ≡ ((n || s) && r)
first_part n s r = third_part true true n s r

module _ (asked : Pattern) (A : Option ℕ → Bool) (B : Option (List ℕ) → Bool) (C : Option ℤ → Bool) (D : Option ℤ → Bool) where
  abbrev has : Pattern → Bool
  has key = A key.task && (B key.date && (C key.index && D key.attempt))

  abbrev any_attempt : Bool
  any_attempt = D None || D asked.attempt

  abbrev any_index : Bool
  any_index = C None || C asked.index

  abbrev any_date : Bool
  any_date = B None || B asked.date

  with_date : (t : Option ℕ) (d : Option (List ℕ)) → list_any has (keys_with_date asked t d) ≡ (A t && (B d && (any_index && any_attempt)))
  with_date t d =
      list_any-append has (keys_with_index asked t d None) (keys_with_index asked t d asked.index)
      ∙ ap₂ (λ a b. a || b) (last_part (A t) (B d) (C None) (D None) (D asked.attempt)) (last_part (A t) (B d) (C asked.index) (D None) (D asked.attempt))
      ∙ third_part (A t) (B d) (C None) (C asked.index) any_attempt

  with_task : (t : Option ℕ) → list_any has (keys_with_task asked t) ≡ (A t && (any_date && (any_index && any_attempt)))
  with_task t =
      list_any-append has (keys_with_date asked t None) (keys_with_date asked t asked.date) ∙ ap₂ (λ a b. a || b) (with_date t None) (with_date t asked.date)
      ∙ second_part (A t) (B None) (B asked.date) (any_index && any_attempt)

  any_key : list_any has (keys_of asked) ≡ ((A None || A asked.task) && (any_date && (any_index && any_attempt)))
  any_key =
      list_any-append has (keys_with_task asked None) (keys_with_task asked asked.task) ∙ ap₂ (λ a b. a || b) (with_task None) (with_task asked.task)
      ∙ first_part (A None) (A asked.task) (any_date && (any_index && any_attempt))

-- ---- what is named

-- an order says that two are equal where a test does
test_is : {X : Type 0} {R : X → X → Ordering} → IsTotalOrder R → IsAntisymmetric R → (x y : X) (b : Bool) → (b ≡ true → y ≡ x) → (y ≡ x → b ≡ true) → is_eq (R x y) ≡ b
test_is {R = R} total same x y b right back = same_answer (is_eq (R x y)) b (λ e. back (sym (same x y ((Equal-is (R x y)).0 e)))) (λ e. ap (λ z. is_eq (R x z)) (right e) ∙ (eq_by_cmp_equiv total).refl x)

named_number : (any : Bool) (named : Option ℤ) (n : ℤ) → (is_some named ≡ true → any ≡ true)
    → (is_eq (option_cmp int_cmp None named) || is_eq (option_cmp int_cmp (then_some any n) named)) ≡ matches_number_in named n
named_number true None n led = refl
named_number true (Some m) n led = test_is int_cmp_total int_cmp-IsAntisymmetric n m (int_eq m n) (signed_Decides m n).0 (signed_Decides m n).1
named_number false None n led = refl
named_number false (Some m) n led = absurd (true≢false (sym (led refl)))

named_date : (named : Option (List ℕ)) (date : List ℕ) → (is_eq (option_cmp (slice_cmp nat_cmp) None named) || is_eq (option_cmp (slice_cmp nat_cmp) (Some date) named)) ≡ matches_text_in named date
named_date None date = refl
named_date (Some text) date = test_is (lists_total nat_cmp_total) (slice_cmp-IsAntisymmetric nat_cmp-IsAntisymmetric) date text (bytes_eq text date) (bytes_eq-Decides text date).0 (bytes_eq-Decides text date).1

-- a named task is one of these by its number; none has the id where there is no number
abbrev task_passes : ℕ → Option (Option ℕ) → Bool
task_passes t None = false
task_passes t (Some number) = is_eq (option_cmp nat_cmp None number) || is_eq (option_cmp nat_cmp (Some t) number)

abbrev date_passes : Bool → List ℕ → Option (Option (List ℕ)) → Bool
date_passes any date None = false
date_passes any date (Some named) = is_eq (option_cmp (slice_cmp nat_cmp) None named) || is_eq (option_cmp (slice_cmp nat_cmp) (then_some any date) named)

module _ (ids : List (List ℕ)) (id : List ℕ) (t : ℕ) (is : position (bytes_eq id) ids ≡ Some t) where
  numbered : (text : List ℕ) (o : Option ℕ) → position (bytes_eq text) ids ≡ o → bytes_eq text id ≡ true → o ≡ Some t
  numbered text o at e = sym at ∙ ap (λ x. position (bytes_eq x) ids) ((bytes_eq-Decides text id).0 e) ∙ is

  at_number : (text : List ℕ) (u : ℕ) → position (bytes_eq text) ids ≡ Some u → u ≡ t → bytes_eq text id ≡ true
  at_number text u at same =
      let one = (bytes_eq-Decides text (get_or ids u [])).0 (position-Some (bytes_eq text) ids u [] at).1 in
      let two = (bytes_eq-Decides id (get_or ids t [])).0 (position-Some (bytes_eq id) ids t [] is).1 in
      (bytes_eq-Decides text id).1 (one ∙ ap (λ n. get_or ids n []) same ∙ sym two)

  task_named : (text : List ℕ) (o : Option ℕ) → position (bytes_eq text) ids ≡ o → task_passes t (option_map Some o) ≡ bytes_eq text id
  task_named text None at = same_answer false (bytes_eq text id) (λ e. absurd (true≢false (sym e))) (λ e. let none : None ≡ Some t = numbered text None at e in cc)
  task_named text (Some u) at = test_is nat_cmp_total nat_cmp-IsAntisymmetric t u (bytes_eq text id) (λ e. some_same (numbered text (Some u) at e)) (at_number text u at)

  named_task : (named : Option (List ℕ)) → task_passes t (number_named ids named) ≡ matches_text_in named id
  named_task None = refl
  named_task (Some text) = task_named text (position (bytes_eq text) ids) refl

named_date_in : (any : Bool) (date : List ℕ) → length date ≡ 20 → (named : Option (List ℕ)) → (is_some named ≡ true → any ≡ true)
    → date_passes any date (date_named named) ≡ matches_text_in named date
named_date_in true date len None led = refl
named_date_in false date len None led = refl
named_date_in false date len (Some text) led = absurd (true≢false (sym (led refl)))
named_date_in true date len (Some text) led = by (length text == 20) refl
  where
    by : (b : Bool) → (length text == 20) ≡ b → date_passes true date (if b then Some (Some text) else None) ≡ matches_text_in (Some text) date
    by true e = named_date (Some text) date
    by false e = same_answer false (bytes_eq text date) (λ f. absurd (true≢false (sym f))) (λ f. let same : length text ≡ 20 = ap length ((bytes_eq-Decides text date).0 f) ∙ len in absurd (true≢false (ap (λ n. n == 20) (sym same) ∙ e)))

-- ---- the parts that entries name

-- what an entry names is among these parts
abbrev IsNamedBy : NamedParts → TableEntry → Type 0
IsNamedBy named e =
    (is_some e.run ≡ true → named.run ≡ true)
    × ((is_some e.index ≡ true → named.index ≡ true) × (is_some e.attempt ≡ true → named.attempt ≡ true))

-- what any of the entries names is among these parts
abbrev AreNamedBy : NamedParts → List TableEntry → Type 0
AreNamedBy named entries =
    (list_any (λ (e : TableEntry). is_some e.run) entries ≡ true → named.run ≡ true)
    × ((list_any (λ (e : TableEntry). is_some e.index) entries ≡ true → named.index ≡ true)
    × (list_any (λ (e : TableEntry). is_some e.attempt) entries ≡ true → named.attempt ≡ true))

or_true : (a b : Bool) → b ≡ true → (a || b) ≡ true
or_true true b e = refl
or_true false b e = e

first_named : {X : Type 0} (p : X → Bool) (x : X) (xs : List X) (b : Bool) → (list_any p (x ∷ xs) ≡ true → b ≡ true) → p x ≡ true → b ≡ true
first_named p x xs b led e = led (ap (λ a. a || list_any p xs) e)

others_named : {X : Type 0} (p : X → Bool) (x : X) (xs : List X) (b : Bool) → (list_any p (x ∷ xs) ≡ true → b ≡ true) → list_any p xs ≡ true → b ≡ true
others_named p x xs b led e = led (or_true (p x) (list_any p xs) e)

pub named_by_own : (entries : List TableEntry) → AreNamedBy (parts_named_in entries) entries
named_by_own entries = (λ e. e, (λ e. e, λ e. e))

-- ---- the whole

eq_parts : (key p : Pattern) → is_eq (pattern_cmp key p) ≡ (is_eq (option_cmp nat_cmp key.task p.task) && (is_eq (option_cmp (slice_cmp nat_cmp) key.date p.date) && (is_eq (option_cmp int_cmp key.index p.index) && is_eq (option_cmp int_cmp key.attempt p.attempt))))
eq_parts key p =
    let a = option_cmp nat_cmp key.task p.task in
    let b = option_cmp (slice_cmp nat_cmp) key.date p.date in
    let c = option_cmp int_cmp key.index p.index in
    let d = option_cmp int_cmp key.attempt p.attempt in
    both_equal a (ordering_then b (ordering_then c d)) ∙ ap (λ r. is_eq a && r) (both_equal b (ordering_then c d) ∙ ap (λ r. is_eq b && r) (both_equal c d))

any_pattern : (named : NamedParts) (d : List ℕ) (name : JobName) (p : Pattern)
    → (is_some p.index ≡ true → named.index ≡ true) → (is_some p.attempt ≡ true → named.attempt ≡ true)
    → list_any (λ key. is_pattern key (Some p)) (keys_of (pattern_of_try named d name))
    ≡ (task_passes name.task (Some p.task) && (date_passes named.run d (Some p.date) && (matches_number_in p.index name.index && matches_number_in p.attempt (pos name.attempt))))
any_pattern named d name p index attempt =
    let asked = pattern_of_try named d name in
    list_any_same (λ key. is_pattern key (Some p)) (has asked (λ t. is_eq (option_cmp nat_cmp t p.task)) (λ d. is_eq (option_cmp (slice_cmp nat_cmp) d p.date)) (λ i. is_eq (option_cmp int_cmp i p.index)) (λ a. is_eq (option_cmp int_cmp a p.attempt))) (keys_of asked) (λ key. eq_parts key p)
    ∙ any_key asked (λ t. is_eq (option_cmp nat_cmp t p.task)) (λ d. is_eq (option_cmp (slice_cmp nat_cmp) d p.date)) (λ i. is_eq (option_cmp int_cmp i p.index)) (λ a. is_eq (option_cmp int_cmp a p.attempt))
    ∙ ap₂ (λ x y. task_passes name.task (Some p.task) && (date_passes named.run d (Some p.date) && (x && y))) (named_number named.index p.index name.index index) (named_number named.attempt p.attempt (pos name.attempt) attempt)

four : (x y z w : Bool) → (x && (y && (z && w))) ≡ (((x && y) && z) && w)
four false y z w = refl
four true false z w = refl
four true true false w = refl
four true true true w = refl

dead : (x z w : Bool) → false ≡ (((x && false) && z) && w)
dead false z w = refl
dead true z w = refl

module _ (ids : List (List ℕ)) (named : NamedParts) (id date : List ℕ) (name : JobName) (is : position (bytes_eq id) ids ≡ Some name.task) (len : length date ≡ 20) where
  abbrev asked : Pattern
  asked = pattern_of_try named date name

  abbrev passes : TableEntry → Bool
  passes e = list_any (λ key. is_pattern key (pattern_in ids e)) (keys_of asked)

  passes_where_it_answers : (e : TableEntry) → IsNamedBy named e → passes e ≡ answers_for_in id date name e
  passes_where_it_answers e led = by (number_named ids e.task) (date_named e.run) (named_task ids id name.task is e.task) (named_date_in named.run date len e.run led.0)
    where
      by : (m : Option (Option ℕ)) (k : Option (Option (List ℕ))) → task_passes name.task m ≡ matches_text_in e.task id → date_passes named.run date k ≡ matches_text_in e.run date
          → list_any (λ key. is_pattern key (option_and_then (λ task. option_map (λ d. record { task = task; date = d; index = e.index; attempt = e.attempt }) k) m)) (keys_of asked)
          ≡ (((matches_text_in e.task id && matches_text_in e.run date) && matches_number_in e.index name.index) && matches_number_in e.attempt (pos name.attempt))
      by None k x y = none_passes (keys_of asked) ∙ ap (λ b. ((b && matches_text_in e.run date) && matches_number_in e.index name.index) && matches_number_in e.attempt (pos name.attempt)) x
      by (Some task) None x y =
          none_passes (keys_of asked) ∙ dead (matches_text_in e.task id) (matches_number_in e.index name.index) (matches_number_in e.attempt (pos name.attempt))
          ∙ ap (λ b. ((matches_text_in e.task id && b) && matches_number_in e.index name.index) && matches_number_in e.attempt (pos name.attempt)) y
      by (Some task) (Some d) x y =
          any_pattern named date name (record { task = task; date = d; index = e.index; attempt = e.attempt }) led.1.0 led.1.1
          ∙ ap₂ (λ a b. a && (b && (matches_number_in e.index name.index && matches_number_in e.attempt (pos name.attempt)))) x y
          ∙ four (matches_text_in e.task id) (matches_text_in e.run date) (matches_number_in e.index name.index) (matches_number_in e.attempt (pos name.attempt))

  all_pass : (entries : List TableEntry) → AreNamedBy named entries → position passes entries ≡ position (answers_for_in id date name) entries
  all_pass [] led = refl
  all_pass (e ∷ es) led =
      let run = (λ (x : TableEntry). is_some x.run) in
      let index = (λ (x : TableEntry). is_some x.index) in
      let attempt = (λ (x : TableEntry). is_some x.attempt) in
      let first : IsNamedBy named e = (first_named run e es named.run led.0, (first_named index e es named.index led.1.0, first_named attempt e es named.attempt led.1.1)) in
      let others : AreNamedBy named es = (others_named run e es named.run led.0, (others_named index e es named.index led.1.0, others_named attempt e es named.attempt led.1.1)) in
      position_cons passes e es ∙ ap₂ (λ b o. if b then Some 0 else option_map suc o) (passes_where_it_answers e first) (all_pass es others)
      ∙ sym (position_cons (answers_for_in id date name) e es)

  pub first_answers : (entries : List TableEntry) (firsts : tree.BTreeMap Pattern ℕ) → AreFirstsOf ids entries firsts → AreNamedBy named entries
      → option_and_then (slice_get entries) (first_of_keys (tree.get pattern_cmp firsts) (keys_of asked)) ≡ find (answers_for_in id date name) entries
  first_answers entries firsts are led =
      ap (option_and_then (slice_get entries)) (first_of_any ids entries firsts (keys_of asked) are ∙ all_pass entries led)
      ∙ sym (find_passing (answers_for_in id date name) entries)

-- what is found by the keys is the first entry that answers
pub answer_found : (ids : List (List ℕ)) (id date : List ℕ) (name : JobName) → position (bytes_eq id) ids ≡ Some name.task → length date ≡ 20 → (entries : List TableEntry) (index : TableIndex)
    → IsIndexOf ids entries index → option_and_then (slice_get entries) (first_of_keys (tree.get pattern_cmp index.firsts) (keys_of (pattern_of_try index.named date name))) ≡ find (answers_for_in id date name) entries
answer_found ids id date name is len entries index are =
    ap (λ (named : NamedParts). option_and_then (slice_get entries) (first_of_keys (tree.get pattern_cmp index.firsts) (keys_of (pattern_of_try named date name)))) are.1
    ∙ first_answers ids (parts_named_in entries) id date name is len entries index.firsts are.0 (named_by_own entries)
