-- A path that climbs, and the ranks that are found on its way down.
use Rattle.std.proofs.Common.{◌≡◌, ◌≢◌, inl, inr, ℕ, zero, suc, ◌<◌, ◌+◌, ◌-◌, List, [], ◌∷◌, ◌++◌, length, get_or, set, Contains, Bool, true, false, true≢false, Option, Some, None, sym, ap, ◌∙◌, subst, arith, Vec, Global}
use Rattle.std.proofs.lemmas.Bool.{cases_lt}
use Rattle.std.proofs.lemmas.Bool.Decides.{eqb_tells}
use Rattle.std.proofs.lemmas.List.{get_or_default, get_or_read, get_or-set_same, get_or-set_other, get_or_append_left, length_push, length-set, length-map}
use Rattle.std.proofs.lemmas.List.Elements.{Contains-get_or, Contains-append_left, Contains-push, Contains-push_cases}
use Rattle.std.proofs.lemmas.List.Quantifiers.{all_pairs_push}
use Rattle.std.proofs.Math.Seq.{get_or-append_seam}
use Rattle.bf_graph.specs.declared.climb.Climb.{Climb}
use Rattle.bf_graph.specs.Edges.{lists, upstreams_of, IsUpstream, AreInRange}
use Rattle.bf_graph.specs.inner.Ranks.{rank_at, HasUnranked}
use Rattle.bf_graph.specs.Reach.{IsPath, is_marked_in}
use Rattle.bf_graph.specs.inner.Cycles.{HasCycle}
use Rattle.bf_graph.specs.inner.Climbs.{AreRankedBetween, IsFirstUnranked, Climbs, IsOnPath, IsClimb, IsClimbing}
use Rattle.bf_graph.proofs.PathLemmas.{edge_before}
use Rattle.bf_graph.proofs.RankLemmas.{upstreams_read}

pub keeps_rank : (rs : List (Option ℕ)) (t r u : ℕ) → t < length rs → rank_at rs u ≢ None → rank_at (set rs t (Some r)) u ≢ None
keeps_rank rs t r u h some e = elim (eqb_tells u t) [
  | inl (_, same) ↦ (let at : Some r ≡ None = sym (ap (rank_at (set rs t (Some r))) same ∙ get_or-set_same rs t (Some r) None h) ∙ e in cc)
  | inr (_, other) ↦ some (sym (get_or-set_other rs t u (Some r) None other) ∙ e)
]

pub still_marked : (seen : List Bool) (u s : ℕ) → u < length seen → is_marked_in seen s ≡ true → is_marked_in (set seen u true) s ≡ true
still_marked seen u s h mark = elim (eqb_tells s u) [
  | inl (_, same) ↦ ap (is_marked_in (set seen u true)) same ∙ get_or-set_same seen u true false h
  | inr (_, other) ↦ get_or-set_other seen u s true false other ∙ mark
]

-- none of these is without rank
pub no_unranked : (ranks : List (Option ℕ)) (us : List ℕ) (from : ℕ) → AreRankedBetween ranks us 0 from → AreRankedBetween ranks us from (length us) → HasUnranked ranks us → ⊥
no_unranked ranks us from before after (u, (k, h, at), none) =
    let is : get_or us k 0 ≡ u = get_or_default us k 0 u h ∙ at in
    elim (cases_lt k from) [
      | inl early ↦ before k (omega arith) early (ap (rank_at ranks) is ∙ none)
      | inr late ↦ after k late h (ap (rank_at ranks) is ∙ none)
    ]

-- where they are read
pub none_unranked : (ranks read : List (Option ℕ)) (us vs : List ℕ) (from p : ℕ) → read ≡ ranks → vs ≡ us → from ≡ p → AreRankedBetween ranks us 0 p → AreRankedBetween read vs from (length vs) → HasUnranked ranks us → ⊥
none_unranked ranks read us vs from p again same at before after =
    let P : List (Option ℕ) → Type 0 = λ rs. AreRankedBetween rs vs from (length vs) in
    let Q : List ℕ → Type 0 = λ xs. AreRankedBetween ranks xs from (length xs) in
    let R : ℕ → Type 0 = λ n. AreRankedBetween ranks us n (length us) in
    no_unranked ranks us p before (subst R at (subst Q same (subst P again after)))

-- ---- the path while it climbs

module _ (ups : List (List ℕ)) (n : ℕ) (ranks : List (Option ℕ)) (rest : List ℕ) (t : ℕ) (seen : List Bool) (passed : List ℕ)
    (k : IsClimb ups n ranks (rest ++ t ∷ []) seen passed) where
  pub last_on_path : IsOnPath n ranks seen t
  last_on_path = k.on_path t (Contains-push rest t)

  not_in_rest : Contains rest t → ⊥
  not_in_rest (j, h, at) =
      k.once j (length rest) t h (omega (arith, length_push rest t)) (get_or_append_left rest (t ∷ []) t j h ∙ at ∙ sym (get_or-append_seam rest t [] t))

  -- its last task is ranked, and taken off
  pub down_one : (r : ℕ) → t < length ranks → IsClimb ups n (set ranks t (Some r)) rest seen passed
  down_one r h = record {
    one_mark_each = k.one_mark_each;
    one_number_each = k.one_number_each;
    passed_ranked = λ s j low high. keeps_rank ranks t r _ h (k.passed_ranked s j low high);
    climbs = λ j within.
        let P : ℕ → ℕ → Type 0 = λ a b. IsUpstream ups a b in
        let up = k.climbs j (omega (arith, within, length_push rest t)) in
        subst (λ (b : ℕ). P (get_or rest (j + 1) 0) b) (get_or_append_left rest (t ∷ []) 0 j (omega (arith, within))) (subst (λ (a : ℕ). P a (get_or (rest ++ t ∷ []) j 0)) (get_or_append_left rest (t ∷ []) 0 (j + 1) within) up);
    once = λ i j d low high e. k.once i j d low (omega (arith, high, length_push rest t)) (get_or_append_left rest (t ∷ []) d i (omega (arith, low, high)) ∙ e ∙ sym (get_or_append_left rest (t ∷ []) d j high));
    on_path = λ s w.
        let old = k.on_path s (Contains-append_left rest (t ∷ []) s w) in
        let other : s ≢ t = λ e. not_in_rest (subst (Contains rest) e w) in
        record { within = old.within; unranked = get_or-set_other ranks t s (Some r) None other ∙ old.unranked; marked = old.marked };
    still = λ s mark none. elim (eqb_tells s t) [
      | inl (_, same) ↦ (let at : Some r ≡ None = sym (ap (rank_at (set ranks t (Some r))) same ∙ get_or-set_same ranks t (Some r) None h) ∙ none in cc)
      | inr (_, other) ↦ elim (Contains-push_cases rest t s (k.still s mark (sym (get_or-set_other ranks t s (Some r) None other) ∙ none))) [
        | inl w ↦ w
        | inr same ↦ absurd (other (sym same))
      ]
    ];
  }

  module _ (i u : ℕ) (is : u ≡ get_or (upstreams_of ups t) i 0) (up : IsUpstream ups u t) (none : rank_at ranks u ≡ None) where
    -- an upstream without rank that was not seen comes on the path
    pub up_one : u < n → is_marked_in seen u ≡ false → AreRankedBetween ranks (upstreams_of ups t) (get_or passed t 0) i → IsClimb ups n ranks ((rest ++ t ∷ []) ++ u ∷ []) (set seen u true) (set passed t i)
    up_one h clear before = record {
      one_mark_each = length-set seen u true ∙ k.one_mark_each;
      one_number_each = length-set passed t i ∙ k.one_number_each;
      passed_ranked = passed_now;
      climbs = climbs_now;
      once = all_pairs_push (λ (a b : ℕ). a ≢ b) (rest ++ t ∷ []) u k.once (λ j d below e. new (subst (Contains (rest ++ t ∷ [])) e (Contains-get_or (rest ++ t ∷ []) j d below)));
      on_path = λ s w. elim (Contains-push_cases (rest ++ t ∷ []) u s w) [
        | inl old ↦ (let o = k.on_path s old in record { within = o.within; unranked = o.unranked; marked = still_marked seen u s (let len = k.one_mark_each in omega (arith, h, len)) o.marked })
        | inr same ↦ subst (IsOnPath n ranks (set seen u true)) same (record { within = h; unranked = none; marked = marked_here })
      ];
      still = λ s mark none_s. elim (eqb_tells s u) [
        | inl (_, same) ↦ subst (Contains ((rest ++ t ∷ []) ++ u ∷ [])) (sym same) (Contains-push (rest ++ t ∷ []) u)
        | inr (_, other) ↦ Contains-append_left (rest ++ t ∷ []) (u ∷ []) s (k.still s (sym (get_or-set_other seen u s true false other) ∙ mark) none_s)
      ];
    }
      where
        new : Contains (rest ++ t ∷ []) u → ⊥
        new w = true≢false (sym (k.on_path u w).marked ∙ clear)

        marked_here : is_marked_in (set seen u true) u ≡ true
        marked_here = let len = k.one_mark_each in get_or-set_same seen u true false (omega (arith, h, len))

        passed_now : (s : ℕ) → AreRankedBetween ranks (upstreams_of ups s) 0 (get_or (set passed t i) s 0)
        passed_now s j low high = elim (eqb_tells s t) [
          | inl (_, same) ↦
              let len = k.one_number_each in
              let within = last_on_path.within in
              let at : get_or (set passed t i) s 0 ≡ i = ap (λ x. get_or (set passed t i) x 0) same ∙ get_or-set_same passed t i 0 (omega (arith, within, len)) in
              let P : ℕ → Type 0 = λ x. rank_at ranks (get_or (upstreams_of ups x) j 0) ≢ None in
              subst P (sym same) (elim (cases_lt j (get_or passed t 0)) [
                | inl early ↦ k.passed_ranked t j low early
                | inr late ↦ before j late (omega (arith, high, at))
              ])
          | inr (_, other) ↦ k.passed_ranked s j low (omega (arith, high, get_or-set_other passed t s i 0 other))
        ]

        climbs_now : Climbs ups ((rest ++ t ∷ []) ++ u ∷ [])
        climbs_now j within =
            let P : ℕ → ℕ → Type 0 = λ a b. IsUpstream ups a b in
            let whole = rest ++ t ∷ [] in
            elim (cases_lt (j + 1) (length whole)) [
              | inl early ↦ subst (λ (b : ℕ). P (get_or (whole ++ u ∷ []) (j + 1) 0) b) (sym (get_or_append_left whole (u ∷ []) 0 j (omega (arith, early)))) (subst (λ (a : ℕ). P a (get_or whole j 0)) (sym (get_or_append_left whole (u ∷ []) 0 (j + 1) early)) (k.climbs j early))
              | inr late ↦
                  let last : length whole ≡ j + 1 = omega (arith, late, within, length_push whole u) in
                  let before_last : length rest ≡ j = omega (arith, last, length_push rest t) in
                  let top : get_or (whole ++ u ∷ []) (j + 1) 0 ≡ u = ap (λ x. get_or (whole ++ u ∷ []) x 0) (sym last) ∙ get_or-append_seam whole u [] 0 in
                  let next : get_or (whole ++ u ∷ []) j 0 ≡ t = get_or_append_left whole (u ∷ []) 0 j (omega (arith, last)) ∙ ap (λ x. get_or whole x 0) (sym before_last) ∙ get_or-append_seam rest t [] 0 in
                  subst (λ (b : ℕ). P (get_or (whole ++ u ∷ []) (j + 1) 0) b) (sym next) (subst (λ (a : ℕ). P a t) (sym top) up)
            ]

    path_back : (j m : ℕ) → j + m < length (rest ++ t ∷ []) → IsPath ups (get_or (rest ++ t ∷ []) (j + m) 0) m (get_or (rest ++ t ∷ []) j 0)
    path_back j zero h = let same : j + 0 ≡ j = omega arith in ap (λ x. get_or (rest ++ t ∷ []) x 0) same
    path_back j (suc m) h =
        let same : j + m + 1 ≡ j + suc m = omega arith in
        let P : ℕ → Type 0 = λ x. IsPath ups (get_or (rest ++ t ∷ []) x 0) (suc m) (get_or (rest ++ t ∷ []) j 0) in
        subst P same (edge_before ups (get_or (rest ++ t ∷ []) (j + m + 1) 0) (get_or (rest ++ t ∷ []) (j + m) 0) m (get_or (rest ++ t ∷ []) j 0) (k.climbs (j + m) (omega (arith, h))) (path_back j m (omega (arith, h))))

    -- an upstream without rank that was seen is on the path
    pub closes : is_marked_in seen u ≡ true → HasCycle ups
    closes mark =
        let whole = rest ++ t ∷ [] in
        let w = k.still u mark none in
        let m = length rest - w.0 in
        let last : w.0 + m ≡ length rest = omega (arith, w.1, length_push rest t) in
        let top : get_or whole (w.0 + m) 0 ≡ t = ap (λ x. get_or whole x 0) last ∙ get_or-append_seam rest t [] 0 in
        let bottom : get_or whole w.0 0 ≡ u = get_or_default whole w.0 0 u w.1 ∙ w.2 in
        let back = path_back w.0 m (omega (arith, last, length_push rest t)) in
        (u, (m, edge_before ups u t m u up (subst (λ (x : ℕ). IsPath ups t m x) bottom (subst (λ (x : ℕ). IsPath ups x m (get_or whole w.0 0)) top back))))

-- ---- the task that was taken off the path

-- where the path without its last task t is rest
pub record IsTakenOff (es : List (Vec ℕ Global)) (c : Climb) (rest : List ℕ) (t : ℕ) : Type 0 where
  pub climb : IsClimb (lists es) (length es) c.found.ranks.items (rest ++ t ∷ []) c.seen.items c.passed.items
  pub within : t < length es
  pub in_ranks : t < length c.found.ranks.items
  pub in_passed : t < length c.passed.items
  pub unranked : rank_at c.found.ranks.items t ≡ None

pub taken_off : (es : List (Vec ℕ Global)) (c : Climb) (rest : List ℕ) (t : ℕ) → c.path.items ≡ rest ++ t ∷ [] → IsClimbing es c → IsTakenOff es c rest t
taken_off es c rest t is climbing =
    let P : List ℕ → Type 0 = λ p. IsClimb (lists es) (length es) c.found.ranks.items p c.seen.items c.passed.items in
    let k = subst P is climbing.climb in
    let last = last_on_path _ _ _ rest _ _ _ k in
    let within = last.within in
    let ranks = climbing.found.right_ranks.len in
    let numbers = k.one_number_each in
    record { climb = k; within = within; in_ranks = omega (arith, within, ranks); in_passed = omega (arith, within, numbers); unranked = last.unranked }

-- its upstreams, and how many of them were passed, where they are read
pub record AreRead (es : List (Vec ℕ Global)) (c : Climb) (t : ℕ) (us : List ℕ) (passed : ℕ) : Type 0 where
  pub upstreams : us ≡ upstreams_of (lists es) t
  pub passed_is : passed ≡ get_or c.passed.items t 0

pub are_read : (es : List (Vec ℕ Global)) (c : Climb) (rest : List ℕ) (t : ℕ) (v : Vec ℕ Global) (us : List ℕ) (passed : ℕ) → IsTakenOff es c rest t → v ≡ get_or es t v → us ≡ v.items → passed ≡ get_or c.passed.items t passed → AreRead es c t us passed
are_read es c rest t v us passed task at items number =
    record { upstreams = upstreams_read es t v us task.within at items; passed_is = get_or_read c.passed.items t passed task.in_passed number 0 }

-- its upstream u at a place, and what is known of those before it
pub record IsNextAbove (es : List (Vec ℕ Global)) (c : Climb) (t place u : ℕ) : Type 0 where
  pub is : u ≡ get_or (upstreams_of (lists es) t) place 0
  pub up : IsUpstream (lists es) u t
  pub within : u < length es
  pub in_seen : u < length c.seen.items
  pub unranked : rank_at c.found.ranks.items u ≡ None
  pub before : AreRankedBetween c.found.ranks.items (upstreams_of (lists es) t) (get_or c.passed.items t 0) place

pub next_above : (es : List (Vec ℕ Global)) (c : Climb) (rest : List ℕ) (t passed place : ℕ) (us : List ℕ) (ranks : List (Option ℕ)) → AreInRange (lists es) → IsTakenOff es c rest t → AreRead es c t us passed → ranks ≡ c.found.ranks.items → IsFirstUnranked ranks us passed place
    → IsNextAbove es c t place (get_or us place 0)
next_above es c rest t passed place us ranks inside task read same first =
    let P : List (Option ℕ) → Type 0 = λ rs. IsFirstUnranked rs us passed place in
    let Q : ℕ → Type 0 = λ n. IsFirstUnranked c.found.ranks.items us n place in
    let R : List ℕ → Type 0 = λ xs. IsFirstUnranked c.found.ranks.items xs (get_or c.passed.items t 0) place in
    let S : List ℕ → Type 0 = λ xs. Contains xs (get_or us place 0) in
    let there = subst Q read.passed_is (subst P same first) in
    let up : IsUpstream (lists es) (get_or us place 0) t = subst S read.upstreams (Contains-get_or us place 0 there.within) in
    let within : get_or us place 0 < length es = omega (arith, inside t (get_or us place 0) up, length-map es (λ (v : Vec ℕ Global). v.items)) in
    let marks = task.climb.one_mark_each in
    record {
      is = ap (λ xs. get_or xs place 0) read.upstreams;
      up = up;
      within = within;
      in_seen = omega (arith, within, marks);
      unranked = there.unranked;
      before = (subst R read.upstreams there).before;
    }
