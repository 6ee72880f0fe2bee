-- Ids, and the numbers of the tasks that have them.
use Rattle.std.proofs.Common.{◌≡◌, ℕ, zero, suc, ◌<◌, ◌+◌, ◌||◌, List, [], ◌∷◌, ◌++◌, length, map, take, filter, get_or, Contains, subst, Bool, true, false, true≢false, not, cond, Option, Some, None, is_none, is_some, option_map, unwrap_or, refl, sym, ap, ◌∙◌, arith}
use Rattle.std.proofs.lemmas.List.{get_or-map}
use Rattle.std.proofs.lemmas.List.Folds.{list_any_at, list_any_more, list_any_none}
use Rattle.std.proofs.lemmas.List.Quantifiers.{position-Some}
use Rattle.std.specs.Cmp.Lexicographic.{bytes_decides}
use Rattle.std.specs.List.{cons_option, filter_map, list_any, position, slice_index_or}
use Rattle.std.specs.Str.{bytes_eq}
use Rattle.bf_read.specs.declared.draft.TaskDraft.{TaskDraft}
use Rattle.bf_read.specs.declared.draft.WordDraft.{WordDraft}
use Rattle.bf_read.specs.Drafts.{distinct_texts_of, pulled_by, pulled_in}
use Rattle.bf_check.specs.Checking.{number_of, number_or_0}
use Rattle.bf_check.specs.inner.Looks.{numbers_in, source_found}
use Rattle.bf_check.specs.Refusals.{is_no_upstream}
use Rattle.bf_graph.proofs.Places.{none_passing}
use Rattle.bf_check.proofs.ListLemmas.{map_more}

-- ---- lists that are mapped

pub mapped_from : {X : Type 0} (f : X → ℕ) (xs : List X) (u : ℕ) → Contains (map f xs) u → (x : X) × Contains xs x × (f x ≡ u)
mapped_from f [] u (k, h, is) = absurd (omega (arith, h))
mapped_from f (x ∷ xs) u (zero, h, is) = (x, (0, omega arith, refl), is)
mapped_from f (x ∷ xs) u (suc k, h, is) = (let rest = mapped_from f xs u (k, omega (arith, h), is) in (rest.0, (suc rest.1.0, omega (arith, rest.1.1), rest.1.2), rest.2))

pub contains_mapped : {X : Type 0} (f : X → ℕ) (xs : List X) (x : X) → Contains xs x → Contains (map f xs) (f x)
contains_mapped f [] x (k, h, is) = absurd (omega (arith, h))
contains_mapped f (y ∷ xs) x (zero, h, is) = (0, omega arith, ap f is)
contains_mapped f (y ∷ xs) x (suc k, h, is) = (let rest = contains_mapped f xs x (k, omega (arith, h), is) in (suc rest.0, omega (arith, rest.1), rest.2))

-- ---- the numbers of ids

module _ (ids : List (List ℕ)) where
  abbrev is_unknown : List ℕ → Bool
  is_unknown id = is_none (number_of ids id)

  -- where the numbers are found, each id is there
  pub all_known : (names : List (List ℕ)) (numbers : List ℕ) → numbers_in ids names ≡ Some numbers → (list_any is_unknown names ≡ false) × (numbers ≡ map (number_or_0 ids) names)
  all_known names numbers e = go (list_any is_unknown names) refl e
    where
      go : (b : Bool) → list_any is_unknown names ≡ b → cond b None (Some (map (number_or_0 ids) names)) ≡ Some numbers → (list_any is_unknown names ≡ false) × (numbers ≡ map (number_or_0 ids) names)
      go true f e = absurd (cc)
      go false f e = (f, cc)

  -- and else one isn't
  pub one_unknown : (names : List (List ℕ)) → numbers_in ids names ≡ None → list_any is_unknown names ≡ true
  one_unknown names e = go (list_any is_unknown names) refl e
    where
      go : (b : Bool) → list_any is_unknown names ≡ b → cond b None (Some (map (number_or_0 ids) names)) ≡ None → list_any is_unknown names ≡ true
      go true f e = f
      go false f e = absurd (cc)

  pub known_number : (names : List (List ℕ)) → list_any is_unknown names ≡ false → (id : List ℕ) → Contains names id → number_of ids id ≡ Some (number_or_0 ids id)
  known_number names known id (k, h, is) = go (number_of ids id) refl
    where
      go : (found : Option ℕ) → number_of ids id ≡ found → found ≡ Some (unwrap_or found 0)
      go (Some n) e = refl
      go None e = absurd (true≢false (sym (list_any_at is_unknown names k id h (ap is_unknown is ∙ ap is_none e)) ∙ known))

  pub unknown_id : (names : List (List ℕ)) → list_any is_unknown names ≡ true → (id : List ℕ) × Contains names id × (number_of ids id ≡ None)
  unknown_id [] e = absurd (true≢false (sym e))
  unknown_id (id ∷ names) e = go (number_of ids id) refl e (unknown_id names)
    where
      go : (found : Option ℕ) → number_of ids id ≡ found → (is_none found || list_any is_unknown names) ≡ true → (list_any is_unknown names ≡ true → (other : List ℕ) × Contains names other × (number_of ids other ≡ None)) → (other : List ℕ) × Contains (id ∷ names) other × (number_of ids other ≡ None)
      go None f e later = (id, (0, omega arith, refl), f)
      go (Some n) f e later = (let rest = later e in (rest.0, (suc rest.1.0, omega (arith, rest.1.1), rest.1.2), rest.2))

  -- the numbers that are found as far as i, and one more
  pub one_known : (names : List (List ℕ)) (numbers : List ℕ) (i n : ℕ) (d : List ℕ) → i < length names → numbers_in ids (take i names) ≡ Some numbers → number_of ids (get_or names i d) ≡ Some n → numbers_in ids (take (i + 1) names) ≡ Some (numbers ++ n ∷ [])
  one_known names numbers i n d within so_far is =
      let known = all_known (take i names) numbers so_far in
      let none : list_any is_unknown (take (i + 1) names) ≡ false = list_any_more is_unknown names i d within ∙ ap (λ b. b || is_unknown (get_or names i d)) known.0 ∙ ap is_none is in
      let more : numbers ++ n ∷ [] ≡ map (number_or_0 ids) (take (i + 1) names) = map_more (number_or_0 ids) names i d numbers n within known.1 (sym (ap (λ found. unwrap_or found 0) is)) in
      ap (λ b. cond b None (Some (map (number_or_0 ids) (take (i + 1) names)))) none ∙ ap Some (sym more)

  pub one_missing : (names : List (List ℕ)) (i : ℕ) (d : List ℕ) → i < length names → number_of ids (get_or names i d) ≡ None → numbers_in ids names ≡ None
  one_missing names i d within is = ap (λ b. cond b None (Some (map (number_or_0 ids) names))) (list_any_at is_unknown names i d within (ap is_none is))

  -- the numbers that are found are below how many tasks there are
  pub numbers_within : (names : List (List ℕ)) (numbers : List ℕ) → numbers_in ids names ≡ Some numbers → (u : ℕ) → Contains numbers u → u < length ids
  numbers_within names numbers e u one =
      let known = all_known names numbers e in
      let from = mapped_from (number_or_0 ids) names u (subst (λ (us : List ℕ). Contains us u) known.1 one) in
      let low = (position-Some (bytes_eq from.0) ids (number_or_0 ids from.0) [] (known_number names known.0 from.0 from.1)).0 in
      omega (arith, low, from.2)

-- ---- places of ids

-- an id that is one of these has a place among them
pub placed_among : (names : List (List ℕ)) (id : List ℕ) → Contains names id → is_some (position (bytes_eq id) names) ≡ true
placed_among names id (k, h, is) = go (position (bytes_eq id) names) refl
  where
    go : (place : Option ℕ) → position (bytes_eq id) names ≡ place → is_some place ≡ true
    go (Some n) e = refl
    go None e = absurd (true≢false (sym ((bytes_decides id (get_or names k id)).1 (sym is)) ∙ none_passing (bytes_eq id) names id e k h))

module _ (ids : List (List ℕ)) (task : TaskDraft) (id : List ℕ) (expands : task.expand ≡ Some id) where
  found_by : (b : Bool) → list_any (bytes_eq id) task.upstreams ≡ b → source_found ids task ≡ cond b (Some (Some (number_or_0 ids id))) None
  found_by b e = ap (λ source. cond (is_no_upstream task source) None (Some (option_map (number_or_0 ids) source))) expands ∙ ap (λ any. cond (not any) None (Some (Some (number_or_0 ids id)))) e ∙ turned b
    where
      turned : (a : Bool) → cond (not a) None (Some (Some (number_or_0 ids id))) ≡ cond a (Some (Some (number_or_0 ids id))) None
      turned true = refl
      turned false = refl

  -- a source that isn't upstream
  pub no_source : position (bytes_eq id) task.upstreams ≡ None → source_found ids task ≡ None
  no_source e = found_by false (list_any_none (bytes_eq id) task.upstreams (λ k d h. none_passing (bytes_eq id) task.upstreams d e k h))

  -- a source that is, with its number from those of the upstreams
  pub source_there : (place : ℕ) (upstreams : List ℕ) → position (bytes_eq id) task.upstreams ≡ Some place → upstreams ≡ map (number_or_0 ids) task.upstreams → source_found ids task ≡ Some (Some (slice_index_or upstreams place 0))
  source_there place upstreams e is =
      let at = position-Some (bytes_eq id) task.upstreams place [] e in
      let same : id ≡ get_or task.upstreams place [] = (bytes_decides id (get_or task.upstreams place [])).0 at.1 in
      let read : get_or upstreams place 0 ≡ number_or_0 ids id = ap (λ us. get_or us place 0) is ∙ get_or-map (number_or_0 ids) task.upstreams place [] 0 at.0 ∙ ap (number_or_0 ids) (sym same) in
      found_by true (list_any_at (bytes_eq id) task.upstreams place [] at.0 at.1) ∙ ap (λ n. Some (Some n)) (sym read)

-- ---- pulls of a command

filter_keeps : {X : Type 0} (p : X → Bool) (xs : List X) (x : X) → p x ≡ true → Contains xs x → Contains (filter p xs) x
filter_keeps p [] x passes (k, h, is) = absurd (omega (arith, h))
filter_keeps p (y ∷ xs) x passes (zero, h, is) = subst (λ b. Contains (cond b (y ∷ filter p xs) (filter p xs)) x) (sym (ap p is ∙ passes)) (0, omega arith, is)
filter_keeps {X} p (y ∷ xs) x passes (suc k, h, is) = go (p y) (filter_keeps p xs x passes (k, omega (arith, h), is))
  where
    go : (b : Bool) → Contains (filter p xs) x → Contains (cond b (y ∷ filter p xs) (filter p xs)) x
    go true (j, low, at) = (suc j, omega (arith, low), at)
    go false one = one

distinct_keeps : (ss : List (List ℕ)) (s : List ℕ) → Contains ss s → Contains (distinct_texts_of ss) s
unfolding distinct_texts_of
distinct_keeps [] s (k, h, is) = absurd (omega (arith, h))
distinct_keeps (t ∷ ss) s (zero, h, is) = (0, omega arith, is)
distinct_keeps (t ∷ ss) s (suc k, h, is) = go (bytes_eq t s) refl (distinct_keeps ss s (k, omega (arith, h), is))
  where
    go : (b : Bool) → bytes_eq t s ≡ b → Contains (distinct_texts_of ss) s → Contains (t ∷ filter (λ u. not (bytes_eq t u)) (distinct_texts_of ss)) s
    go true e one = (0, omega arith, (bytes_decides t s).0 e)
    go false e one = (let rest = filter_keeps (λ u. not (bytes_eq t u)) (distinct_texts_of ss) s (ap not e) one in (suc rest.0, omega (arith, rest.1), rest.2))

given_kept : {X Y : Type 0} (h : X → Option Y) (xs : List X) (x : X) (y : Y) → h x ≡ Some y → Contains xs x → Contains (filter_map h xs) y
given_kept h [] x y gives (k, low, is) = absurd (omega (arith, low))
given_kept h (z ∷ xs) x y gives (zero, low, is) = subst (λ o. Contains (cons_option o (filter_map h xs)) y) (sym (ap h is ∙ gives)) (0, omega arith, refl)
given_kept {Y = Y} h (z ∷ xs) x y gives (suc k, low, is) = go (h z) (given_kept h xs x y gives (k, omega (arith, low), is))
  where
    go : (o : Option Y) → Contains (filter_map h xs) y → Contains (cons_option o (filter_map h xs)) y
    go None one = one
    go (Some w) (j, in_rest, at) = (suc j, omega (arith, in_rest), at)

-- what a word pulls from is among what its command pulls from
pub pulled_among : (words : List WordDraft) (word : WordDraft) (id : List ℕ) → Contains words word → pulled_by word ≡ Some id → Contains (pulled_in words) id
pulled_among words word id one pulls = distinct_keeps (filter_map pulled_by words) id (given_kept pulled_by words word id pulls one)
