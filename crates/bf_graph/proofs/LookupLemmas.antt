-- Rising lists of tasks.
use Rattle.std.proofs.Common.{◌≡◌, ◌≢◌, ◌⊎◌, inl, inr, ℕ, ◌<◌, ◌≤◌, ◌+◌, List, [], ◌∷◌, ◌++◌, length, get_or, map, set, eqb, All, Contains, Bool, true, false, true≢false, refl, sym, ap, ◌∙◌, subst, arith, Vec, Global}
use Rattle.std.specs.List.Sorted.{IsStrictlyIncreasing}
use Rattle.std.proofs.lemmas.Bool.{cases_lt}
use Rattle.std.proofs.lemmas.Bool.Decides.{eqb_tells, nat_tests}
use Rattle.std.proofs.lemmas.List.{get_or_default, get_or_past, get_or-map, get_or-set_same, get_or-set_other, get_or_append_left, length_push, length-set, length-map, map-set}
use Rattle.std.proofs.lemmas.List.Elements.{All-from_get_or, All-map, Contains-get_or, Contains-append_left, Contains-push, Contains-push_cases}
use Rattle.std.proofs.Math.Seq.{get_or-append_seam}
use Rattle.bf_graph.specs.Edges.{lists, upstreams_of, IsUpstream, AreInRange}
use Rattle.bf_graph.specs.Reach.{Reaches, is_marked_in, rows_of, row_at, HasRows}
use Rattle.bf_graph.specs.Lookups.{IsRisingListOf, IsLeaf, AreDownstreams}
use Rattle.bf_graph.specs.inner.Lookups.{AreDownstreamsBelow}
use Rattle.bf_graph.proofs.PathLemmas.{none_in, task_within, first_edge}
use Rattle.bf_graph.proofs.LevelLemmas.{IsOneBelow}
use Rattle.bf_graph.proofs.RankLemmas.{upstreams_read}
use Rattle.bf_graph.proofs.ReachLemmas.{row_read}

pub same_list : (P Q : ℕ → Type 0) (xs : List ℕ) → ((t : ℕ) → P t → Q t) → ((t : ℕ) → Q t → P t) → IsRisingListOf P xs → IsRisingListOf Q xs
same_list P Q xs f g is = record { rising = is.rising; exact = λ t. (λ w. f t ((is.exact t).0 w), λ q. (is.exact t).1 (g t q)) }

pub no_list : (P : ℕ → Type 0) → ((t : ℕ) → P t → ⊥) → IsRisingListOf P []
no_list P none = record { rising = λ k h. absurd (omega (arith, h)); exact = λ t. (λ w. absurd (none_in t w), λ p. absurd (none t p)) }

rising_push : (xs : List ℕ) (t : ℕ) → IsStrictlyIncreasing xs → ((x : ℕ) → Contains xs x → x < t) → IsStrictlyIncreasing (xs ++ t ∷ [])
rising_push xs t rising below k h = elim (cases_lt (k + 1) (length xs)) [
  | inl early ↦ rw (get_or_append_left xs (t ∷ []) 0 k (omega (arith, early)), get_or_append_left xs (t ∷ []) 0 (k + 1) early) (rising k early)
  | inr late ↦
      let last : length xs ≡ k + 1 = omega (arith, late, h, length_push xs t) in
      let at : get_or (xs ++ t ∷ []) (k + 1) 0 ≡ t = ap (λ j. get_or (xs ++ t ∷ []) j 0) (sym last) ∙ get_or-append_seam xs t [] 0 in
      let x = below (get_or xs k 0) (Contains-get_or xs k 0 (omega (arith, last))) in
      omega (arith, x, at, get_or_append_left xs (t ∷ []) 0 k (omega (arith, last)))
]

pub one_listed : (P Q : ℕ → Type 0) (xs : List ℕ) (t : ℕ) → IsRisingListOf P xs → ((x : ℕ) → P x → x < t) → Q t → ((x : ℕ) → P x → Q x) → ((x : ℕ) → Q x → P x ⊎ (x ≡ t)) → IsRisingListOf Q (xs ++ t ∷ [])
one_listed P Q xs t is below here f g = record {
  rising = rising_push xs t is.rising (λ x w. below x ((is.exact x).0 w));
  exact = λ x. (forth x, back x);
}
  where
    forth : (x : ℕ) → Contains (xs ++ t ∷ []) x → Q x
    forth x w = elim (Contains-push_cases xs t x w) [ inl old ↦ f x ((is.exact x).0 old) | inr same ↦ subst Q same here ]

    back : (x : ℕ) → Q x → Contains (xs ++ t ∷ []) x
    back x q = elim (g x q) [
      | inl p ↦ Contains-append_left xs (t ∷ []) x ((is.exact x).1 p)
      | inr same ↦ subst (Contains (xs ++ t ∷ [])) (sym same) (Contains-push xs t)
    ]

-- ---- the places that are marked

marked_within : (marks : List Bool) (n t : ℕ) → length marks ≡ n → is_marked_in marks t ≡ true → t < n
marked_within marks n t len e = elim (cases_lt t (length marks)) [
  | inl early ↦ omega (arith, early, len)
  | inr late ↦ absurd (true≢false (sym e ∙ get_or_past marks t false late))
]

abbrev pub IsMarkedBelow : List Bool → ℕ → ℕ → Type 0
IsMarkedBelow marks n t = (t < n) × (is_marked_in marks t ≡ true)

module _ (marks : List Bool) (n : ℕ) (xs : List ℕ) (is : IsRisingListOf (IsMarkedBelow marks n) xs) where
  pub place_marked : is_marked_in marks n ≡ true → IsRisingListOf (IsMarkedBelow marks (n + 1)) (xs ++ n ∷ [])
  place_marked mark = one_listed (IsMarkedBelow marks n) (IsMarkedBelow marks (n + 1)) xs n is (λ x p. p.0) (omega arith, mark) (λ x p. (omega (arith, p.0), p.1)) (λ x q. elim (cases_lt x n) [
    | inl early ↦ inl (early, q.1)
    | inr late ↦ inr (omega (arith, late, q.0))
  ])

  pub place_unmarked : is_marked_in marks n ≡ false → IsRisingListOf (IsMarkedBelow marks (n + 1)) xs
  place_unmarked clear = same_list (IsMarkedBelow marks n) (IsMarkedBelow marks (n + 1)) xs (λ x p. (omega (arith, p.0), p.1)) (λ x q. elim (cases_lt x n) [
    | inl early ↦ (early, q.1)
    | inr late ↦ (let last : x ≡ n = omega (arith, late, q.0) in absurd (true≢false (sym q.1 ∙ ap (is_marked_in marks) last ∙ clear)))
  ]) is

-- ---- downstreams

-- a downstream before t, and t itself for the first i of its upstreams
abbrev pub IsFoundBelow : List (List ℕ) → ℕ → ℕ → ℕ → ℕ → Type 0
IsFoundBelow ups t i u d = ((d < t) × IsUpstream ups u d) ⊎ ((d ≡ t) × IsOneBelow (upstreams_of ups t) i u)

pub record AddsDownstream (ups : List (List ℕ)) (t i : ℕ) (downs : List (List ℕ)) : Type 0 where
  pub len : length downs ≡ length ups
  pub each : (u : ℕ) → u < length ups → IsRisingListOf (IsFoundBelow ups t i u) (upstreams_of downs u)

module _ (ups : List (List ℕ)) (t : ℕ) where
  pub adds_start : (downs : List (List ℕ)) → AreDownstreamsBelow ups t downs → AddsDownstream ups t 0 downs
  adds_start downs is = record {
    len = is.len;
    each = λ u h. same_list (λ d. (d < t) × IsUpstream ups u d) (IsFoundBelow ups t 0 u) (upstreams_of downs u) (λ d p. inl p) (λ d q. elim q [ inl p ↦ p | inr (e, (k, h', at)) ↦ absurd (omega (arith, h')) ]) (is.each u h);
  }

  later : (i u d : ℕ) → IsFoundBelow ups t i u d → IsFoundBelow ups t (i + 1) u d
  later i u d (inl p) = inl p
  later i u d (inr (e, (k, h, at))) = inr (e, (k, omega (arith, h), at))

  pub adds_more : (i v : ℕ) (downs : List (List ℕ)) (new : List ℕ) → v ≡ get_or (upstreams_of ups t) i 0 → v < length ups → AddsDownstream ups t i downs
      → IsRisingListOf (λ d. Contains (upstreams_of downs v) d ⊎ (d ≡ t)) new → AddsDownstream ups t (i + 1) (set downs v new)
  adds_more i v downs new one within is more = record { len = length-set downs v new ∙ is.len; each = each }
    where
      here : IsRisingListOf (IsFoundBelow ups t (i + 1) v) new
      here = same_list (λ d. Contains (upstreams_of downs v) d ⊎ (d ≡ t)) (IsFoundBelow ups t (i + 1) v) new (λ d q. elim q [
        | inl w ↦ later i v d (((is.each v within).exact d).0 w)
        | inr e ↦ inr (e, (i, omega arith, sym one))
      ]) (λ d q. elim q [ inl p ↦ inl (((is.each v within).exact d).1 (inl p)) | inr (e, w) ↦ inr e ]) more

      not_here : (u : ℕ) → u ≢ v → (d : ℕ) → IsFoundBelow ups t (i + 1) u d → IsFoundBelow ups t i u d
      not_here u other d (inl p) = inl p
      not_here u other d (inr (e, (k, h, at))) = elim (cases_lt k i) [
        | inl early ↦ inr (e, (k, early, at))
        | inr late ↦ absurd (other (sym at ∙ (let last : k ≡ i = omega (arith, h, late) in ap (λ j. get_or (upstreams_of ups t) j 0) last ∙ sym one)))
      ]

      each : (u : ℕ) → u < length ups → IsRisingListOf (IsFoundBelow ups t (i + 1) u) (upstreams_of (set downs v new) u)
      each u h = elim (eqb_tells u v) [
        | inl (_, same) ↦
            let len = is.len in
            let at : upstreams_of (set downs v new) u ≡ new = ap (upstreams_of (set downs v new)) same ∙ get_or-set_same downs v new [] (omega (arith, within, len)) in
            let P : ℕ → Type 0 = λ w. IsRisingListOf (IsFoundBelow ups t (i + 1) w) new in
            subst (IsRisingListOf (IsFoundBelow ups t (i + 1) u)) (sym at) (subst P (sym same) here)
        | inr (_, other) ↦
            subst (IsRisingListOf (IsFoundBelow ups t (i + 1) u)) (sym (get_or-set_other downs v u new [] other)) (same_list (IsFoundBelow ups t i u) (IsFoundBelow ups t (i + 1) u) (upstreams_of downs u) (later i u) (not_here u other) (is.each u h))
      ]

  pub adds_end : (i : ℕ) (downs : List (List ℕ)) → length (upstreams_of ups t) ≤ i → i ≤ length (upstreams_of ups t) → AddsDownstream ups t i downs → AreDownstreamsBelow ups (t + 1) downs
  adds_end i downs low high is = record {
    len = is.len;
    each = λ u h. same_list (IsFoundBelow ups t i u) (λ d. (d < t + 1) × IsUpstream ups u d) (upstreams_of downs u) (forth u) (back u) (is.each u h);
  }
    where
      forth : (u d : ℕ) → IsFoundBelow ups t i u d → (d < t + 1) × IsUpstream ups u d
      forth u d (inl p) = (omega (arith, p.0), p.1)
      forth u d (inr (e, (k, h, at))) =
          let P : ℕ → Type 0 = λ s. IsUpstream ups u s in
          let within : k < length (upstreams_of ups t) = omega (arith, h, high) in
          (omega (arith, e), subst P (sym e) (k, within, get_or_default (upstreams_of ups t) k u 0 within ∙ at))

      back : (u d : ℕ) → (d < t + 1) × IsUpstream ups u d → IsFoundBelow ups t i u d
      back u d p = elim (cases_lt d t) [
        | inl early ↦ inl (early, p.1)
        | inr late ↦
            let e : d ≡ t = omega (arith, late, p.0) in
            let P : ℕ → Type 0 = λ s. IsUpstream ups u s in
            let w = subst P e p.1 in
            inr (e, (w.0, omega (arith, w.1, low), get_or_default (upstreams_of ups t) w.0 0 u w.1 ∙ w.2))
      ]

  -- what the list of one upstream is before t is added
  pub list_before : (i u : ℕ) (downs : List (List ℕ)) → u < length ups → AddsDownstream ups t i downs → IsStrictlyIncreasing (upstreams_of downs u) × All (λ x. x ≤ t) (upstreams_of downs u)
  list_before i u downs h is =
      let list = is.each u h in
      (list.rising, All-from_get_or (λ x. x ≤ t) (upstreams_of downs u) 0 (λ k within. below (get_or (upstreams_of downs u) k 0) ((list.exact _).0 (Contains-get_or (upstreams_of downs u) k 0 within))))
    where
      below : (d : ℕ) → IsFoundBelow ups t i u d → d ≤ t
      below d (inl p) = omega (arith, p.0)
      below d (inr p) = omega (arith, p.0)

-- where the lists are vectors
pub add_read : (es fs : List (Vec ℕ Global)) (t i v : ℕ) (us : List ℕ) (old : Vec ℕ Global) → us ≡ upstreams_of (lists es) t → v ≡ get_or us i 0 → v < length es → AddsDownstream (lists es) t i (lists fs) → old ≡ get_or fs v old
    → (IsStrictlyIncreasing old.items × All (λ x. x ≤ t) old.items)
    × ((new : Vec ℕ Global) → IsRisingListOf (λ x. Contains old.items x ⊎ (x ≡ t)) new.items → AddsDownstream (lists es) t (i + 1) (lists (set fs v new)))
add_read es fs t i v us old read one h is at =
    let items : Vec ℕ Global → List ℕ = λ w. w.items in
    let within : v < length (lists es) = omega (arith, h, length-map es items) in
    let len = is.len in
    let list : old.items ≡ upstreams_of (lists fs) v = upstreams_read fs v old old.items (omega (arith, within, len, length-map fs items)) at refl in
    let P : List ℕ → Type 0 = λ xs. IsStrictlyIncreasing xs × All (λ x. x ≤ t) xs in (
      subst P (sym list) (list_before (lists es) t i v (lists fs) within is),
      λ new more.
          let Q : List ℕ → Type 0 = λ xs. IsRisingListOf (λ x. Contains xs x ⊎ (x ≡ t)) new.items in
          subst (AddsDownstream (lists es) t (i + 1)) (sym (map-set items fs v new)) (adds_more (lists es) t i v (lists fs) new.items (one ∙ ap (λ xs. get_or xs i 0) read) within is (subst Q list more)),
    )

pub all_downstreams : (ups : List (List ℕ)) (n : ℕ) (downs : List (List ℕ)) → length ups ≤ n → AreDownstreamsBelow ups n downs → AreDownstreams ups downs
all_downstreams ups n downs h is = record {
  len = is.len;
  each = λ t within. same_list (λ d. (d < n) × IsUpstream ups t d) (λ d. IsUpstream ups t d) (upstreams_of downs t) (λ d p. p.1) (λ d up. (let below = task_within ups t d up in omega (arith, below, h), up)) (is.each t within);
}

pub no_downstreams : (ups : List (List ℕ)) (made : List (Vec ℕ Global)) → length made ≡ length ups → All (λ (v : Vec ℕ Global). v.items ≡ []) made → AreDownstreamsBelow ups 0 (lists made)
no_downstreams ups made len empty = record {
  len = length-map made (λ (v : Vec ℕ Global). v.items) ∙ len;
  each = λ t h.
      let none = All-map (λ (xs : List ℕ). xs ≡ []) (λ (v : Vec ℕ Global). v.items) made empty in
      subst (IsRisingListOf (λ d. (d < 0) × IsUpstream ups t d)) (sym (none t [] (omega (arith, h, len, length-map made (λ (v : Vec ℕ Global). v.items))))) (no_list (λ d. (d < 0) × IsUpstream ups t d) (λ d p. omega (arith, p.0)));
}

-- ---- leaves, and what stands in a column

-- an empty list is one without elements
empty_is : (xs : List ℕ) → eqb (length xs) 0 ≡ true → (t : ℕ) → Contains xs t → ⊥
empty_is xs e t (k, h, at) = grind (arith, nat_tests)

is_empty : (xs : List ℕ) → ((t : ℕ) → Contains xs t → ⊥) → eqb (length xs) 0 ≡ true
is_empty [] none = refl
is_empty (x ∷ xs) none = absurd (none x (0, omega arith, refl))

abbrev is_empty_at : Vec ℕ Global → Bool
is_empty_at v = eqb (length v.items) 0

empty_lists_at : (downs : List (Vec ℕ Global)) → map is_empty_at downs ≡ map (λ (xs : List ℕ). eqb (length xs) 0) (lists downs)
empty_lists_at [] = refl
empty_lists_at (v ∷ vs) = ap (λ bs. is_empty_at v ∷ bs) (empty_lists_at vs)

-- the marks on the empty lists are on the leaves
pub leaves_listed : (downs : List (Vec ℕ Global)) (read marks : List Bool) (xs : List ℕ) → marks ≡ map is_empty_at downs → read ≡ marks → IsRisingListOf (λ t. is_marked_in read t ≡ true) xs
    → (ups : List (List ℕ)) → AreDownstreams ups (lists downs) → IsRisingListOf (λ t. IsLeaf ups t) xs
leaves_listed downs read marks xs made again is ups below = same_list (λ t. is_marked_in read t ≡ true) (λ t. IsLeaf ups t) xs forth back is
  where
    size : length downs ≡ length ups
    size = sym (length-map downs (λ (v : Vec ℕ Global). v.items)) ∙ below.len

    long : length read ≡ length downs
    long = ap length (again ∙ made) ∙ length-map downs is_empty_at

    mark : (t : ℕ) → t < length ups → is_marked_in read t ≡ eqb (length (upstreams_of (lists downs) t)) 0
    mark t h =
        let f : List ℕ → Bool = λ xs. eqb (length xs) 0 in
        ap (λ ms. is_marked_in ms t) (again ∙ made ∙ empty_lists_at downs) ∙ get_or-map f (lists downs) t [] false (omega (arith, h, size, length-map downs (λ (v : Vec ℕ Global). v.items)))

    within : (t : ℕ) → is_marked_in read t ≡ true → t < length ups
    within t e = marked_within read (length ups) t (long ∙ size) e

    forth : (t : ℕ) → is_marked_in read t ≡ true → IsLeaf ups t
    forth t e =
        let h = within t e in
        (h, λ d up. empty_is (upstreams_of (lists downs) t) (sym (mark t h) ∙ e) d (((below.each t h).exact d).1 up))

    back : (t : ℕ) → IsLeaf ups t → is_marked_in read t ≡ true
    back t (h, none) = mark t h ∙ is_empty (upstreams_of (lists downs) t) (λ d w. none d (((below.each t h).exact d).0 w))

-- ---- descendants and ancestors

reached_within : (es : List (Vec ℕ Global)) (a t : ℕ) → Reaches (lists es) a t → t < length es
reached_within es a t (n, (u, up, p)) = omega (arith, task_within (lists es) u t up, length-map es (λ (v : Vec ℕ Global). v.items))

reaching_within : (es : List (Vec ℕ Global)) (a t : ℕ) → AreInRange (lists es) → Reaches (lists es) a t → a < length es
reaching_within es a t inside (n, p) =
    let b = first_edge (lists es) a n t p in
    omega (arith, inside b.0 a b.1, length-map es (λ (v : Vec ℕ Global). v.items))

column_rows : (rows : List (Vec Bool Global)) (t : ℕ) → map (λ (v : Vec Bool Global). is_marked_in v.items t) rows ≡ map (λ (bs : List Bool). is_marked_in bs t) (rows_of rows)
column_rows [] t = refl
column_rows (v ∷ vs) t = ap (λ bs. is_marked_in v.items t ∷ bs) (column_rows vs t)

-- the marks of what reaches a task, as they are read
pub ancestors_listed : (es : List (Vec ℕ Global)) (rows : List (Vec Bool Global)) (t : ℕ) (v : Vec Bool Global) (row : List Bool) (xs : List ℕ) → AreInRange (lists es) → HasRows (lists es) (length es) (rows_of rows) → t < length es → v ≡ get_or rows t v → row ≡ v.items
    → IsRisingListOf (λ a. is_marked_in row a ≡ true) xs → IsRisingListOf (λ a. Reaches (lists es) a t) xs
ancestors_listed es rows t v row xs inside kept h at e is =
    let size = kept.len in
    let read = row_read rows t v row (omega (arith, h, size, length-map rows (λ (w : Vec Bool Global). w.items))) at e in
    let right = kept.row t h in
    let long : length row ≡ length es = ap length read ∙ right.len in
    let same : (a : ℕ) → is_marked_in row a ≡ is_marked_in (row_at (rows_of rows) t) a = λ a. ap (λ bs. is_marked_in bs a) read in
    same_list (λ a. is_marked_in row a ≡ true) (λ a. Reaches (lists es) a t) xs (λ a m. (right.right a (marked_within row (length es) a long m)).0 (sym (same a) ∙ m)) (λ a w. same a ∙ (right.right a (reaching_within es a t inside w)).1 w) is

-- the column of marks of what a task reaches, as it is read
pub descendants_listed : (es : List (Vec ℕ Global)) (rows read : List (Vec Bool Global)) (t : ℕ) (column marks : List Bool) (xs : List ℕ) → HasRows (lists es) (length es) (rows_of rows) → t < length es → read ≡ rows → column ≡ map (λ (v : Vec Bool Global). is_marked_in v.items t) read → marks ≡ column
    → IsRisingListOf (λ d. is_marked_in marks d ≡ true) xs → IsRisingListOf (λ d. Reaches (lists es) t d) xs
descendants_listed es rows read t column marks xs kept h again made e is = same_list (λ d. is_marked_in marks d ≡ true) (λ d. Reaches (lists es) t d) xs forth back is
  where
    whole : marks ≡ map (λ (bs : List Bool). is_marked_in bs t) (rows_of rows)
    whole = e ∙ made ∙ ap (map (λ (v : Vec Bool Global). is_marked_in v.items t)) again ∙ column_rows rows t

    size : length (rows_of rows) ≡ length es
    size = kept.len

    mark : (d : ℕ) → d < length es → is_marked_in marks d ≡ is_marked_in (row_at (rows_of rows) d) t
    mark d k =
        let f : List Bool → Bool = λ bs. is_marked_in bs t in
        ap (λ ms. is_marked_in ms d) whole ∙ get_or-map f (rows_of rows) d [] false (omega (arith, k, size))

    within : (d : ℕ) → is_marked_in marks d ≡ true → d < length es
    within d m = let f : List Bool → Bool = λ bs. is_marked_in bs t in marked_within marks (length es) d (ap length whole ∙ length-map (rows_of rows) f ∙ size) m

    forth : (d : ℕ) → is_marked_in marks d ≡ true → Reaches (lists es) t d
    forth d m = let k = within d m in ((kept.row d k).right t h).0 (sym (mark d k) ∙ m)

    back : (d : ℕ) → Reaches (lists es) t d → is_marked_in marks d ≡ true
    back d w = let k = reached_within es t d w in mark d k ∙ ((kept.row d k).right t h).1 w

pub rows_wide : (es : List (Vec ℕ Global)) (rows : List (Vec Bool Global)) (t : ℕ) → HasRows (lists es) (length es) (rows_of rows) → t < length es → All (λ (v : Vec Bool Global). t < length v.items) rows
rows_wide es rows t kept h k d within =
    let items : Vec Bool Global → List Bool = λ w. w.items in
    let size = kept.len in
    let len = (kept.row k (omega (arith, within, size, length-map rows items))).len in
    omega (arith, h, len, ap length (get_or-map items rows k d [] within))
