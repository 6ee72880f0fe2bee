-- Each text once, found one after another.
use Rattle.std.proofs.Common.{◌≡◌, ◌≢◌, ℕ, ◌<◌, ◌+◌, All, arith, List, [], ◌∷◌, ◌++◌, ◌&&◌, ◌||◌, length, get_or, map, drop, drop-cons, add-one, filter, Bool, true, false, not, cond, Bor, refl, sym, ap, ◌∙◌, append_assoc, append-nil, true≢false}
use Rattle.std.specs.List.{list_any}
use Rattle.std.specs.Str.{bytes_eq}
use Rattle.std.specs.Cmp.Lexicographic.{bytes_decides}
use Rattle.std.proofs.lemmas.List.Elements.{filter_agree, filter_passes}
use Rattle.std.proofs.lemmas.List.Kept.{AllPairs-cons, AllPairs-filter}
use Rattle.std.proofs.lemmas.List.Folds.{list_any-append}
use Rattle.bf_value.specs.Distinct.{AreDistinct}
use Rattle.bf_read.specs.Drafts.{distinct_texts_of}

-- a text that is none of these
abbrev pub is_new : List (List ℕ) → List ℕ → Bool
is_new found t = not (list_any (bytes_eq t) found)

module _ {X : Type 0} (p q : X → Bool) where
  kept_by_both : (x : X) (xs : List X) (a b : Bool) → p x ≡ a → q x ≡ b → filter p (filter q (x ∷ xs)) ≡ cond (a && b) (x ∷ filter p (filter q xs)) (filter p (filter q xs))
  kept_by_both x xs true true e f = rw (f, e) refl
  kept_by_both x xs true false e f = rw f refl
  kept_by_both x xs false true e f = rw (f, e) refl
  kept_by_both x xs false false e f = rw f refl

  -- what passes one test of what passes another
  pub filter_filter : (xs : List X) → filter p (filter q xs) ≡ filter (λ x. p x && q x) xs
  filter_filter [] = refl
  filter_filter (x ∷ xs) = kept_by_both x xs (p x) (q x) refl refl ∙ ap (λ ys. cond (p x && q x) (x ∷ ys) ys) (filter_filter xs)

bytes_eq_true : (s t : List ℕ) → bytes_eq s t ≡ true → s ≡ t
bytes_eq_true s t e = (bytes_decides s t).0 e

pub bytes_eq_sym : (s t : List ℕ) → bytes_eq s t ≡ bytes_eq t s
bytes_eq_sym s t = go (bytes_eq s t) (bytes_eq t s) refl refl
  where
    go : (a b : Bool) → bytes_eq s t ≡ a → bytes_eq t s ≡ b → a ≡ b
    go true true e f = refl
    go false false e f = refl
    go true false e f = absurd (true≢false (sym ((bytes_decides t s).1 (sym (bytes_eq_true s t e))) ∙ f))
    go false true e f = absurd (true≢false (sym ((bytes_decides s t).1 (sym (bytes_eq_true t s f))) ∙ e))

-- a text that is new after s is new, and isn't s
new_after : (found : List (List ℕ)) (s t : List ℕ) → is_new (found ++ s ∷ []) t ≡ (is_new found t && not (bytes_eq s t))
new_after found s t = ap not (list_any-append (bytes_eq t) found (s ∷ [])) ∙ ap (λ b. not (list_any (bytes_eq t) found || (b || false))) (bytes_eq_sym t s) ∙ both (list_any (bytes_eq t) found) (bytes_eq s t)
  where
    both : (a b : Bool) → not (a || (b || false)) ≡ (not a && not b)
    both true b = refl
    both false true = refl
    both false false = refl

and_true : (a : Bool) → (a && true) ≡ a
and_true true = refl
and_true false = refl

-- where s was found, what is new isn't s
old_needless : (found : List (List ℕ)) (s t : List ℕ) → list_any (bytes_eq s) found ≡ true → (is_new found t && not (bytes_eq s t)) ≡ is_new found t
old_needless found s t e = go (bytes_eq s t) refl
  where
    go : (b : Bool) → bytes_eq s t ≡ b → (is_new found t && not b) ≡ is_new found t
    go true f = let same = ap (λ u. list_any (bytes_eq u) found) (bytes_eq_true s t f) in rw (sym same ∙ e) refl
    go false f = and_true (is_new found t)

-- these texts, and those after them that are new
abbrev pub with_new : List (List ℕ) → List (List ℕ) → List (List ℕ)
with_new found ss = found ++ filter (is_new found) (distinct_texts_of ss)

pub new_found : (found ss : List (List ℕ)) (s : List ℕ) → list_any (bytes_eq s) found ≡ false → with_new (found ++ s ∷ []) ss ≡ with_new found (s ∷ ss)
unfolding distinct_texts_of
new_found found ss s e =
    append_assoc found (s ∷ []) (filter (is_new (found ++ s ∷ [])) (distinct_texts_of ss))
    ∙ ap (λ ts. found ++ s ∷ ts) (filter_agree (is_new (found ++ s ∷ [])) (λ t. is_new found t && not (bytes_eq s t)) (new_after found s) (distinct_texts_of ss) ∙ sym (filter_filter (is_new found) (λ t. not (bytes_eq s t)) (distinct_texts_of ss)))
    ∙ ap (λ ts. found ++ ts) (sym (rw e refl))

pub old_found : (found ss : List (List ℕ)) (s : List ℕ) → list_any (bytes_eq s) found ≡ true → with_new found ss ≡ with_new found (s ∷ ss)
unfolding distinct_texts_of
old_found found ss s e =
    ap (λ ts. found ++ ts) (sym (
    rw e (filter_filter (is_new found) (λ t. not (bytes_eq s t)) (distinct_texts_of ss)
    ∙ filter_agree (λ t. is_new found t && not (bytes_eq s t)) (is_new found) (λ t. old_needless found s t e) (distinct_texts_of ss))))

pub none_found : (ss : List (List ℕ)) → with_new [] ss ≡ distinct_texts_of ss
none_found ss = all (distinct_texts_of ss)
  where
    all : (ts : List (List ℕ)) → filter (is_new []) ts ≡ ts
    all [] = refl
    all (t ∷ ts) = ap (λ us. t ∷ us) (all ts)

pub all_found : (found : List (List ℕ)) → with_new found [] ≡ found
unfolding distinct_texts_of
all_found found = append-nil found

-- no text stands twice among the distinct ones
pub distinct_AreDistinct : (ss : List (List ℕ)) → AreDistinct (distinct_texts_of ss)
unfolding distinct_texts_of
distinct_AreDistinct [] = λ i j d lt within. absurd (omega (arith, within))
distinct_AreDistinct (s ∷ ss) = AllPairs-cons (λ a b. a ≢ b) s (filter (λ t. not (bytes_eq s t)) (distinct_texts_of ss)) others (AllPairs-filter (λ a b. a ≢ b) (λ t. not (bytes_eq s t)) (distinct_texts_of ss) (distinct_AreDistinct ss))
  where
    others : All (λ t. s ≢ t) (filter (λ t. not (bytes_eq s t)) (distinct_texts_of ss))
    others k d within same = true≢false (sym (filter_passes (λ t. not (bytes_eq s t)) (distinct_texts_of ss) k d within) ∙ ap not ((bytes_decides s _).1 same))

-- ---- a text at a time

-- the texts from i on
abbrev pub texts_from : ℕ → List (Bor (List ℕ)) → List (List ℕ)
texts_from i all = map (λ s. s.now) (drop i all)

module _ (all : List (Bor (List ℕ))) (i : ℕ) (d : Bor (List ℕ)) (found : List (List ℕ)) (within : i < length all) where
  here : texts_from i all ≡ (get_or all i d).now ∷ texts_from (i + 1) all
  here = let next : drop i all ≡ get_or all i d ∷ drop (i + 1) all = rw add-one (drop-cons all i d within) in ap (map (λ (s : Bor (List ℕ)). s.now)) next

  pub one_new : list_any (bytes_eq (get_or all i d).now) found ≡ false → with_new (found ++ (get_or all i d).now ∷ []) (texts_from (i + 1) all) ≡ with_new found (texts_from i all)
  one_new e = new_found found (texts_from (i + 1) all) (get_or all i d).now e ∙ ap (with_new found) (sym here)

  pub one_old : list_any (bytes_eq (get_or all i d).now) found ≡ true → with_new found (texts_from (i + 1) all) ≡ with_new found (texts_from i all)
  one_old e = old_found found (texts_from (i + 1) all) (get_or all i d).now e ∙ ap (with_new found) (sym here)

-- what was seen is what was found, before and after one more text was seen
module _ (found : List (List ℕ)) (x : Bor (List ℕ)) (before after : Bor (List ℕ) → Bool)
    (updates : (q : Bor (List ℕ)) → after q ≡ cond (bytes_eq x.now q.now) true (before q)) (seen : (q : Bor (List ℕ)) → before q ≡ list_any (bytes_eq q.now) found) where
  or_here : (a b : Bool) → cond a true b ≡ (b || (a || false))
  or_here true true = refl
  or_here true false = refl
  or_here false true = refl
  or_here false false = refl

  pub seen_new : (q : Bor (List ℕ)) → after q ≡ list_any (bytes_eq q.now) (found ++ x.now ∷ [])
  seen_new q =
      updates q ∙ ap (cond (bytes_eq x.now q.now) true) (seen q) ∙ or_here (bytes_eq x.now q.now) (list_any (bytes_eq q.now) found)
      ∙ ap (λ b. list_any (bytes_eq q.now) found || (b || false)) (bytes_eq_sym x.now q.now) ∙ sym (list_any-append (bytes_eq q.now) found (x.now ∷ []))

  pub seen_old : before x ≡ true → (q : Bor (List ℕ)) → after q ≡ list_any (bytes_eq q.now) found
  seen_old old q = updates q ∙ go (bytes_eq x.now q.now) refl
    where
      go : (a : Bool) → bytes_eq x.now q.now ≡ a → cond a true (before q) ≡ list_any (bytes_eq q.now) found
      go true e = sym (ap (λ t. list_any (bytes_eq t) found) (sym (bytes_eq_true x.now q.now e)) ∙ sym (seen x) ∙ old)
      go false e = seen q

not_not : (a b : Bool) → a ≡ not b → not a ≡ b
not_not a true e = ap not e
not_not a false e = ap not e

-- what was added was new, and what wasn't was found
pub added_new : (added old found : Bool) → added ≡ not old → old ≡ found → added ≡ true → found ≡ false
added_new added old found e f was = sym f ∙ sym (not_not added old e) ∙ ap not was

pub not_added_old : (added old found : Bool) → added ≡ not old → old ≡ found → added ≡ false → found ≡ true
not_added_old added old found e f was = sym f ∙ sym (not_not added old e) ∙ ap not was
