-- Levels: from which tasks so many edges lead to one.
use Rattle.std.proofs.Common.{◌≡◌, ◌⊎◌, ◌↔◌, inl, inr, ℕ, suc, ◌<◌, ◌≤◌, ◌+◌, List, [], ◌∷◌, ◌++◌, length, length-append, get_or, set, Contains, Bool, true, false, true≢false, sym, ap, ◌∙◌, subst, arith, Vec, Global}
use Rattle.std.proofs.lemmas.Bool.{cases_lt}
use Rattle.std.proofs.lemmas.Bool.Decides.{eqb_tells}
use Rattle.std.proofs.lemmas.List.{get_or_default, length-map, map_push, get_or-set_same, get_or-set_other, get_or_append_left, get_or_push, length-set}
use Rattle.bf_graph.specs.Edges.{upstreams_of, IsUpstream}
use Rattle.bf_graph.specs.Reach.{IsPath, is_marked_in, row_at, rows_of}
use Rattle.bf_graph.specs.inner.Cycles.{IsLevel, IsAbove, AreAbove, AreLevels}
use Rattle.bf_graph.proofs.PathLemmas.{edge_before, first_edge, task_within}
use Rattle.bf_graph.proofs.ReachLemmas.{row_read}

-- ---- marks on some tasks

-- one of the first i
abbrev pub IsOneBelow : List ℕ → ℕ → ℕ → Type 0
IsOneBelow ts i t = (k : ℕ) × (k < i) × (get_or ts k 0 ≡ t)

pub record MarksBelow (old : List Bool) (ts : List ℕ) (i : ℕ) (new : List Bool) : Type 0 where
  pub len : length new ≡ length old
  pub marks : (t : ℕ) → (is_marked_in new t ≡ true) ↔ ((is_marked_in old t ≡ true) ⊎ IsOneBelow ts i t)

pub one_more_marked : (old new : List Bool) (ts : List ℕ) (i : ℕ) → get_or ts i 0 < length new → MarksBelow old ts i new → MarksBelow old ts (i + 1) (set new (get_or ts i 0) true)
one_more_marked old new ts i within so_far = record {
  len = length-set new (get_or ts i 0) true ∙ so_far.len;
  marks = λ t. (forth t, back t);
}
  where
    forth : (t : ℕ) → is_marked_in (set new (get_or ts i 0) true) t ≡ true → (is_marked_in old t ≡ true) ⊎ IsOneBelow ts (i + 1) t
    forth t e = elim (eqb_tells t (get_or ts i 0)) [
      | inl (_, here) ↦ inr (i, omega arith, sym here)
      | inr (_, other) ↦ elim ((so_far.marks t).0 (sym (get_or-set_other new (get_or ts i 0) t true false other) ∙ e)) [
        | inl was ↦ inl was
        | inr (k, h, at) ↦ inr (k, omega (arith, h), at)
      ]
    ]

    here_marked : (t : ℕ) → t ≡ get_or ts i 0 → is_marked_in (set new (get_or ts i 0) true) t ≡ true
    here_marked t here = ap (is_marked_in (set new (get_or ts i 0) true)) here ∙ get_or-set_same new (get_or ts i 0) true false within

    kept : (t : ℕ) → is_marked_in new t ≡ true → is_marked_in (set new (get_or ts i 0) true) t ≡ true
    kept t e = elim (eqb_tells t (get_or ts i 0)) [
      | inl (_, here) ↦ here_marked t here
      | inr (_, other) ↦ get_or-set_other new (get_or ts i 0) t true false other ∙ e
    ]

    back : (t : ℕ) → (is_marked_in old t ≡ true) ⊎ IsOneBelow ts (i + 1) t → is_marked_in (set new (get_or ts i 0) true) t ≡ true
    back t (inl e) = kept t ((so_far.marks t).1 (inl e))
    back t (inr (k, h, at)) = elim (cases_lt k i) [
      | inl early ↦ kept t ((so_far.marks t).1 (inr (k, early, at)))
      | inr late ↦ (let last : k ≡ i = omega (arith, h, late) in here_marked t (sym at ∙ ap (λ j. get_or ts j 0) last))
    ]

pub all_more_marked : (old new : List Bool) (ts : List ℕ) (i : ℕ) → length ts ≤ i → i ≤ length ts → MarksBelow old ts i new → (t : ℕ) → (is_marked_in new t ≡ true) ↔ ((is_marked_in old t ≡ true) ⊎ Contains ts t)
all_more_marked old new ts i low high s t = (
  λ e. elim ((s.marks t).0 e) [ inl was ↦ inl was | inr (k, h, at) ↦ inr (k, omega (arith, h, high), get_or_default ts k t 0 (omega (arith, h, high)) ∙ at) ],
  λ w. (s.marks t).1 (elim w [ inl was ↦ inl was | inr (k, h, at) ↦ inr (k, omega (arith, h, low), get_or_default ts k 0 t h ∙ at) ]),
)

-- ---- a level above a level

pub record IsAboveBelow (ups : List (List ℕ)) (level : List Bool) (i : ℕ) (above : List Bool) : Type 0 where
  pub len : length above ≡ length ups
  pub right : (a : ℕ) → (is_marked_in above a ≡ true) ↔ ((u : ℕ) × (u < i) × (is_marked_in level u ≡ true) × IsUpstream ups a u)

module _ (ups : List (List ℕ)) (level above : List Bool) (i : ℕ) (s : IsAboveBelow ups level i above) where
  earlier : (a : ℕ) → is_marked_in above a ≡ true → (u : ℕ) × (u < i + 1) × (is_marked_in level u ≡ true) × IsUpstream ups a u
  earlier a e = let w = (s.right a).0 e in (w.0, omega (arith, w.1), w.2, w.3)

  pub one_above : (more : List Bool) (us : List ℕ) → is_marked_in level i ≡ true → us ≡ upstreams_of ups i → length more ≡ length above
      → ((t : ℕ) → (is_marked_in more t ≡ true) ↔ ((is_marked_in above t ≡ true) ⊎ Contains us t)) → IsAboveBelow ups level (i + 1) more
  one_above more us mark is len marks = record { len = len ∙ s.len; right = λ a. (forth a, back a) }
    where
      forth : (a : ℕ) → is_marked_in more a ≡ true → (u : ℕ) × (u < i + 1) × (is_marked_in level u ≡ true) × IsUpstream ups a u
      forth a e = elim ((marks a).0 e) [
        | inl was ↦ earlier a was
        | inr new ↦ (let P : List ℕ → Type 0 = λ xs. Contains xs a in (i, omega arith, mark, subst P is new))
      ]

      back : (a : ℕ) → (u : ℕ) × (u < i + 1) × (is_marked_in level u ≡ true) × IsUpstream ups a u → is_marked_in more a ≡ true
      back a (u, h, m, up) = elim (cases_lt u i) [
        | inl early ↦ (marks a).1 (inl ((s.right a).1 (u, early, m, up)))
        | inr late ↦ (let last : u ≡ i = omega (arith, h, late) in let P : ℕ → Type 0 = λ n. IsUpstream ups a n in let Q : List ℕ → Type 0 = λ xs. Contains xs a in (marks a).1 (inr (subst Q (sym is) (subst P last up))))
      ]

  pub none_more_above : is_marked_in level i ≡ false → IsAboveBelow ups level (i + 1) above
  none_more_above clear = record { len = s.len; right = λ a. (earlier a, back a) }
    where
      back : (a : ℕ) → (u : ℕ) × (u < i + 1) × (is_marked_in level u ≡ true) × IsUpstream ups a u → is_marked_in above a ≡ true
      back a (u, h, m, up) = elim (cases_lt u i) [
        | inl early ↦ (s.right a).1 (u, early, m, up)
        | inr late ↦ (let last : u ≡ i = omega (arith, h, late) in absurd (true≢false (sym m ∙ ap (is_marked_in level) last ∙ clear)))
      ]

pub next_level : (ups : List (List ℕ)) (t n : ℕ) (level above : List Bool) → IsLevel ups t n level → AreAbove ups level above → IsLevel ups t (suc n) above
next_level ups t n level above right up = record {
  len = up.len;
  right = λ a h. (
    λ e. let w = (up.right a h).0 e in edge_before ups a w.0 n t w.3 ((right.right w.0 w.1).0 w.2),
    λ p. (up.right a h).1 (back a p),
  );
}
  where
    back : (a : ℕ) → IsPath ups a (suc n) t → IsAbove ups level a
    back a p =
        let b = first_edge ups a n t p in
        let within = task_within ups a b.0 b.1 in
        (b.0, within, (right.right b.0 within).1 b.2, b.1)

-- ---- levels

pub record LevelsSoFar (ups : List (List ℕ)) (t n : ℕ) (levels : List (List Bool)) : Type 0 where
  pub len : length levels ≡ suc n
  pub right : (m : ℕ) → m ≤ n → IsLevel ups t m (row_at levels m)
  pub first : (m : ℕ) → 0 < m → m ≤ n → IsPath ups t m t → ⊥

module _ (ups : List (List ℕ)) (t n : ℕ) (levels : List (List Bool)) (above : List Bool) (within : t < length ups) (k : LevelsSoFar ups t n levels) (level : IsLevel ups t (suc n) above) where
  right_more : (m : ℕ) → m ≤ suc n → IsLevel ups t m (row_at (levels ++ above ∷ []) m)
  right_more m h = elim (cases_lt m (suc n)) [
    | inl early ↦ (let len = k.len in subst (IsLevel ups t m) (sym (get_or_append_left levels (above ∷ []) [] m (omega (arith, early, len)))) (k.right m (omega (arith, early))))
    | inr late ↦ (let len = k.len in let last : m ≡ suc n = omega (arith, h, late) in
        let Q : ℕ → Type 0 = λ j. IsLevel ups t j above in
        subst (IsLevel ups t m) (sym (get_or_push levels above [] m (omega (arith, last, len)))) (subst Q (sym last) level))
  ]

  long_more : length (levels ++ above ∷ []) ≡ suc (suc n)
  long_more = let len = k.len in omega (arith, len, length-append levels (above ∷ []))

  pub levels_more : is_marked_in above t ≡ false → LevelsSoFar ups t (suc n) (levels ++ above ∷ [])
  levels_more clear = record {
    len = long_more;
    right = right_more;
    first = λ m some h p. elim (cases_lt m (suc n)) [
      | inl early ↦ k.first m some (omega (arith, early)) p
      | inr late ↦ (let last : m ≡ suc n = omega (arith, h, late) in let P : ℕ → Type 0 = λ j. IsPath ups t j t in true≢false (sym ((level.right t within).1 (subst P last p)) ∙ clear))
    ];
  }

  pub levels_found : is_marked_in above t ≡ true → AreLevels ups t (suc n) (levels ++ above ∷ [])
  levels_found mark = record {
    len = long_more;
    some = omega arith;
    right = right_more;
    path = (level.right t within).0 mark;
    first = λ m some h p. k.first m some (omega (arith, h)) p;
  }

-- ---- what the code reads

pub level_read : (ups : List (List ℕ)) (t n : ℕ) (levels : List (Vec Bool Global)) (v : Vec Bool Global) (level : List Bool) → LevelsSoFar ups t n (rows_of levels) → v ≡ get_or levels n v → level ≡ v.items → IsLevel ups t n level
level_read ups t n levels v level k is e =
    let len = k.len in
    subst (IsLevel ups t n) (sym (row_read levels n v level (omega (arith, len, length-map levels (λ (w : Vec Bool Global). w.items))) is e)) (k.right n (omega arith))

pub one_level : (ups : List (List ℕ)) (t n : ℕ) (levels after : List (Vec Bool Global)) (v above : Vec Bool Global) (level : List Bool) (b : Bool)
    → t < length ups → LevelsSoFar ups t n (rows_of levels) → v ≡ get_or levels n v → level ≡ v.items → AreAbove ups level above.items → after ≡ levels ++ above ∷ [] → b ≡ get_or above.items t b
    → IsLevel ups t (suc n) above.items × (is_marked_in above.items t ≡ b) × (rows_of after ≡ rows_of levels ++ above.items ∷ [])
one_level ups t n levels after v above level b within k is e up pushed mark =
    let wide = up.len in (
      next_level ups t n level above.items (level_read ups t n levels v level k is e) up,
      sym (mark ∙ get_or_default above.items t b false (omega (arith, within, wide))),
      ap rows_of pushed ∙ map_push (λ (w : Vec Bool Global). w.items) levels above,
    )

pub level_at : (ups : List (List ℕ)) (t last n : ℕ) (levels : List (Vec Bool Global)) (v : Vec Bool Global) (level : List Bool) → AreLevels ups t last (rows_of levels) → n ≤ last → v ≡ get_or levels n v → level ≡ v.items → IsLevel ups t n level
level_at ups t last n levels v level k h is e =
    let len = k.len in
    subst (IsLevel ups t n) (sym (row_read levels n v level (omega (arith, h, len, length-map levels (λ (w : Vec Bool Global). w.items))) is e)) (k.right n h)
