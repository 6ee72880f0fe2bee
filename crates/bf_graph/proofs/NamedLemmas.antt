-- The first of the shortest cycles from a task, and why it is the one that is named.
use Rattle.std.proofs.Common.{◌≡◌, inl, inr, ℕ, zero, suc, ◌<◌, ◌≤◌, ◌-◌, List, [], ◌∷◌, ◌++◌, length, append_assoc, append-nil, get_or, Contains, Bool, Less, Equal, Greater, nat_cmp, ◌≢◌, Ordering, slice_index, refl, sym, ap, ◌∙◌, subst, arith, Vec, Global}
use Rattle.std.proofs.lemmas.Bool.{cases_lt, lt-ltb}
use Rattle.std.proofs.lemmas.Bool.Decides.{nat_tests}
use Rattle.std.proofs.lemmas.List.{length-map, get_or_default}
use Rattle.std.proofs.lemmas.List.Elements.{All-from_get_or}
use Rattle.std.specs.Cmp.Lexicographic.{slice_cmp}
use Rattle.std.specs.Cmp.Lexicographic.{bytes_decides}
use Rattle.std.specs.Ordering.{ordering_then, ordering_reverse, is_eq}
use Rattle.std.proofs.lemmas.Cmp.{nat_list_cmp_total}
use Rattle.std.proofs.lemmas.Map.Text.{is_eq-slice_cmp}
use Rattle.bf_graph.specs.Edges.{IsUpstream, IsChain, IsCycle}
use Rattle.bf_graph.specs.Reach.{IsPath, Reaches, rows_of}
use Rattle.bf_graph.specs.Cycles.{IsCycleFrom, IsNamedCycle}
use Rattle.bf_graph.specs.inner.Cycles.{IsLevel, IsAbove, AreLevels, IsEarliestNext, IsFirstShortest, AreReaching, HasCycle}
use Rattle.bf_graph.proofs.PathLemmas.{task_within, first_edge, chain_path, cycle_reaches}

-- from v, the earliest task each time from which the edges that are left lead to s
abbrev pub IsFirstWalk : List (List ℕ) → ℕ → ℕ → ℕ → List ℕ → Type 0
IsFirstWalk ups s zero v [] = v ≡ s
IsFirstWalk ups s zero v (t ∷ ts) = ⊥
IsFirstWalk ups s (suc n) v [] = ⊥
IsFirstWalk ups s (suc n) v (t ∷ ts) =
    (t ≡ v) × ((w : ℕ) × IsUpstream ups v w × IsPath ups w n s × ((x : ℕ) → x < w → IsUpstream ups v x → IsPath ups x n s → ⊥) × IsFirstWalk ups s n w ts)

nat_cmp_self : (n : ℕ) → nat_cmp n n ≡ Equal
nat_cmp_self n = grind (arith, nat_tests)

module _ (ups : List (List ℕ)) (s : ℕ) where
  walk_len : (n v : ℕ) (ts : List ℕ) → IsFirstWalk ups s n v ts → length ts ≡ n
  walk_len zero v [] w = refl
  walk_len zero v (t ∷ ts) w = absurd w
  walk_len (suc n) v [] w = absurd w
  walk_len (suc n) v (t ∷ ts) (at, (u, up, p, least, rest)) = ap suc (walk_len n u ts rest)

  walk_chain : (n v : ℕ) (ts : List ℕ) → IsFirstWalk ups s n v ts → IsChain ups (ts ++ s ∷ [])
  walk_chain zero v [] w = tt
  walk_chain zero v (t ∷ ts) w = absurd w
  walk_chain (suc n) v [] w = absurd w
  walk_chain (suc zero) v (t ∷ []) (at, (u, up, p, least, rest)) =
      let P : ℕ → ℕ → Type 0 = λ a b. IsUpstream ups a b in
      (subst (P t) rest (subst (λ (a : ℕ). P a u) (sym at) up), tt)
  walk_chain (suc zero) v (t ∷ x ∷ ts) (at, (u, up, p, least, rest)) = absurd rest
  walk_chain (suc (suc n)) v (t ∷ []) (at, (u, up, p, least, rest)) = absurd rest
  walk_chain (suc (suc n)) v (t ∷ x ∷ ts) (at, (u, up, p, least, rest)) =
      let P : ℕ → ℕ → Type 0 = λ a b. IsUpstream ups a b in
      (subst (P t) (sym rest.0) (subst (λ (a : ℕ). P a u) (sym at) up), walk_chain (suc n) u (x ∷ ts) rest)

  -- the same first task decides nothing
  past_first : (t v : ℕ) (ts us : List ℕ) → t ≡ v → slice_cmp nat_cmp (t ∷ ts) (v ∷ us) ≡ Greater → slice_cmp nat_cmp ts us ≡ Greater
  past_first t v ts us same e = sym (ap (λ o. ordering_then o (slice_cmp nat_cmp ts us)) (ap (λ k. nat_cmp k v) same ∙ nat_cmp_self v)) ∙ e

  -- an earlier first task decides
  before : (n u x : ℕ) (ts us : List ℕ) → IsFirstWalk ups s (suc n) u ts → u < x → slice_cmp nat_cmp ts (x ∷ us) ≡ Greater → ⊥
  before n u x [] us w h e = w
  before n u x (t ∷ ts) us w h e =
      let below : nat_cmp t x ≡ Less = ap (λ k. nat_cmp k x) w.0 ∙ rw (lt-ltb u x h) in
      let no : Less ≡ Greater = ap (λ o. ordering_then o (slice_cmp nat_cmp ts us)) (sym below) ∙ e in
      cc

  walk_first : (n v : ℕ) (ts us : List ℕ) → IsFirstWalk ups s (suc n) v ts → IsChain ups (v ∷ us ++ s ∷ []) → length us ≡ n → slice_cmp nat_cmp ts (v ∷ us) ≡ Greater → ⊥
  walk_first n v [] us w c len e = w
  walk_first zero v (t ∷ []) [] w c len e = let no = past_first t v [] [] w.0 e in cc
  walk_first zero v (t ∷ y ∷ ts) [] (at, (u, up, p, least, rest)) c len e = rest
  walk_first zero v (t ∷ ts) (x ∷ us) w c len e = omega arith
  walk_first (suc n) v (t ∷ ts) [] w c len e = omega arith
  walk_first (suc n) v (t ∷ ts) (x ∷ us) (at, (u, up, p, least, rest)) c len e =
      let more = past_first t v ts (x ∷ us) at e in
      let short : length us ≡ n = omega arith in
      elim (cases_lt x u) [
        | inl lower ↦ (let P : ℕ → Type 0 = λ m. IsPath ups x (suc m) s in least x lower c.0 (subst P short (chain_path ups x us s c.1)))
        | inr low ↦ elim (cases_lt u x) [
          | inl higher ↦ before n u x ts us rest higher more
          | inr high ↦
              let same : x ≡ u = omega (arith, low, high) in
              let P : ℕ → Type 0 = λ y. IsChain ups (y ∷ us ++ s ∷ []) in
              let Q : ℕ → Type 0 = λ y. slice_cmp nat_cmp ts (y ∷ us) ≡ Greater in
              walk_first n u ts us rest (subst P same c.1) short (subst Q same more)
        ]
      ]

  walk_cycle : (n : ℕ) (ts : List ℕ) → IsFirstWalk ups s (suc n) s ts → IsCycleFrom ups s ts
  walk_cycle n [] w = absurd w
  walk_cycle n (t ∷ ts) w =
      let P : ℕ → Type 0 = λ y. IsChain ups (t ∷ ts ++ y ∷ []) in
      (w.0, subst P (sym w.0) (walk_chain (suc n) s (t ∷ ts) w))

  first_cycle : (n : ℕ) (ts us : List ℕ) → IsFirstWalk ups s (suc n) s ts → IsCycleFrom ups s us → length us ≡ suc n → slice_cmp nat_cmp ts us ≡ Greater → ⊥
  first_cycle n ts [] w c len e = c.1
  first_cycle n ts (u ∷ us) w c len e =
      let P : ℕ → Type 0 = λ y. IsChain ups (y ∷ us ++ y ∷ []) in
      let Q : ℕ → Type 0 = λ y. slice_cmp nat_cmp ts (y ∷ us) ≡ Greater in
      walk_first n s ts us w (subst P c.0 c.1) (omega arith) (subst Q c.0 e)

-- ---- along the levels

pub record WalkSoFar (ups : List (List ℕ)) (s last left at : ℕ) (done : List ℕ) : Type 0 where
  pub bound : left ≤ last
  pub within : at < length ups
  pub leads : IsPath ups at left s
  pub goes_on : (ws : List ℕ) → IsFirstWalk ups s left at ws → IsFirstWalk ups s last s (done ++ ws)

pub one_back : (ups : List (List ℕ)) (s last left at : ℕ) (done : List ℕ) → 0 < left → WalkSoFar ups s last left at done → WalkSoFar ups s last (suc (left - 1)) at done
one_back ups s last left at done h k = let P : ℕ → Type 0 = λ n. WalkSoFar ups s last n at done in let same : left ≡ suc (left - 1) = omega arith in subst P same k

pub some_above : (ups : List (List ℕ)) (s last left at : ℕ) (done : List ℕ) (level : List Bool) → WalkSoFar ups s last (suc left) at done → IsLevel ups s left level → IsAbove ups level at
some_above ups s last left at done level k right =
    let w = first_edge ups at left s k.leads in
    let within = task_within ups at w.0 w.1 in
    (w.0, within, (right.right w.0 within).1 w.2, w.1)

pub walk_more : (ups : List (List ℕ)) (s last left at next : ℕ) (done : List ℕ) (level : List Bool) → WalkSoFar ups s last (suc left) at done → IsLevel ups s left level → IsEarliestNext ups level at next → WalkSoFar ups s last left next (done ++ at ∷ [])
walk_more ups s last left at next done level k right least = record {
  bound = (let b = k.bound in omega (arith, b));
  within = least.within;
  leads = (right.right next least.within).0 least.marked;
  goes_on = λ ws w.
      let P : List ℕ → Type 0 = λ xs. IsFirstWalk ups s last s xs in
      subst P (sym (append_assoc done (at ∷ []) ws)) (k.goes_on (at ∷ ws) (refl, (next, least.edge, (right.right next least.within).0 least.marked, (λ x h edge p. least.earliest x h ((right.right x (task_within ups at x edge)).1 p) edge), w)));
}

walk_gives : (ups : List (List ℕ)) (s last : ℕ) (ts : List ℕ) → 0 < last → IsFirstWalk ups s last s ts → IsFirstShortest ups s last ts
walk_gives ups s zero ts some w = absurd (omega arith)
walk_gives ups s (suc n) ts some w =
    let len = walk_len ups s (suc n) s ts w in
    record { cycle = walk_cycle ups s n ts w; len = len; first = λ us c same. first_cycle ups s n ts us w c (same ∙ len) }

pub walk_ends : (ups : List (List ℕ)) (s last left at : ℕ) (done : List ℕ) → 0 < last → left ≡ 0 → WalkSoFar ups s last left at done → IsFirstShortest ups s last done
walk_ends ups s last left at done some e k =
    let P : List ℕ → Type 0 = λ xs. IsFirstWalk ups s last s xs in
    let Q : ℕ → Type 0 = λ n. WalkSoFar ups s last n at done in
    let ended = subst Q e k in
    walk_gives ups s last done some (subst P (append-nil done) (ended.goes_on [] ended.leads))

-- ---- the cycle that is named

pub levels_again : (ups : List (List ℕ)) (s last : ℕ) (levels read : List (Vec Bool Global)) → read ≡ levels → AreLevels ups s last (rows_of levels) → AreLevels ups s (length read - 1) (rows_of read)
levels_again ups s last levels read is k =
    let len = k.len in
    let same : last ≡ length levels - 1 = omega (arith, len, length-map levels (λ (v : Vec Bool Global). v.items)) in
    let P : List (Vec Bool Global) → Type 0 = λ vs. AreLevels ups s (length vs - 1) (rows_of vs) in
    let Q : ℕ → Type 0 = λ n. AreLevels ups s n (rows_of levels) in
    subst P (sym is) (subst Q same k)

cycle_path : (ups : List (List ℕ)) (s : ℕ) (us : List ℕ) → IsCycleFrom ups s us → (0 < length us) × IsPath ups s (length us) s
cycle_path ups s [] c = absurd c.1
cycle_path ups s (u ∷ us) c =
    let P : ℕ → Type 0 = λ t. IsPath ups t (suc (length us)) t in
    (omega arith, subst P c.0 (chain_path ups u us u c.1))

pub is_named : (ups : List (List ℕ)) (s last : ℕ) (rows : List (List Bool)) (ts : List ℕ) → ((t : ℕ) → t < s → Reaches ups t t → ⊥) → AreLevels ups s last rows → IsFirstShortest ups s last ts → IsNamedCycle ups ts
is_named ups s last rows ts earlier levels walk =
    let head : get_or ts 0 0 ≡ s = walk.cycle.0 in
    let len = walk.len in
    let P : List ℕ → ℕ → Type 0 = λ us t. IsCycleFrom ups t us in
    record {
      cycle = walk.cycle.1;
      earliest = λ us c. All-from_get_or (λ u. get_or ts 0 0 ≤ u) us 0 (λ k h. elim (cases_lt (get_or us k 0) (get_or ts 0 0)) [
        | inl early ↦ absurd (earlier (get_or us k 0) (omega (arith, early, head)) (cycle_reaches ups us k 0 c h))
        | inr late ↦ late
      ]);
      shortest = λ us c.
          let p = cycle_path ups s us (subst (P us) head c) in
          elim (cases_lt (length us) last) [ inl short ↦ absurd (levels.first (length us) p.0 short p.1) | inr long ↦ omega (arith, long, len) ];
      first = λ us c. walk.first us (subst (P us) head c);
    }

-- where no task before `t` reaches itself, and all have been tried
pub none_left : (ups : List (List ℕ)) (n : ℕ) → n ≡ length ups → ((t : ℕ) → t < n → Reaches ups t t → ⊥) → HasCycle ups → ⊥
none_left ups n len none (t, (m, p)) =
    let within = task_within ups p.0 t p.1 in
    none t (omega (arith, within, len)) (m, p)

-- ---- what the code reads

-- a task that is found leads to itself
pub returns_soon : (ups : List (List ℕ)) (t n : ℕ) (found : List ℕ) → AreReaching ups t found → n ≡ length found → Contains found t → (m : ℕ) × (m < n) × IsPath ups t (suc m) t
returns_soon ups t n found reaching len (k, h, at) =
    let w = reaching.near k h in
    let P : ℕ → Type 0 = λ a. IsPath ups a (suc w.0) t in
    (w.0, omega (arith, w.1, h, len), subst P (get_or_default found k 0 t h ∙ at) w.2)

-- ---- one cycle is named

same_order : (o : Ordering) (ts us : List ℕ) → slice_cmp nat_cmp ts us ≡ o → slice_cmp nat_cmp ts us ≢ Greater → slice_cmp nat_cmp us ts ≢ Greater → ts ≡ us
same_order Less ts us e not_above not_below = absurd (not_below (nat_list_cmp_total.antisymm us ts ∙ ap ordering_reverse e))
same_order Equal ts us e not_above not_below = (bytes_decides ts us).0 (sym (is_eq-slice_cmp ts us) ∙ ap is_eq e)
same_order Greater ts us e not_above not_below = absurd (not_above e)

begins : (ups : List (List ℕ)) (ts : List ℕ) → IsCycle ups ts → 0 < length ts
begins ups [] cycle = absurd cycle
begins ups (t ∷ ts) cycle = omega arith

pub one_named : (ups : List (List ℕ)) (ts us : List ℕ) → IsNamedCycle ups ts → IsNamedCycle ups us → ts ≡ us
one_named ups ts us a b =
    let low = a.earliest us b.cycle 0 0 (begins ups us b.cycle) in
    let high = b.earliest ts a.cycle 0 0 (begins ups ts a.cycle) in
    let start : slice_index us 0 ≡ slice_index ts 0 = omega (arith, low, high) in
    let short = a.shortest us (start, b.cycle) in
    let long = b.shortest ts (sym start, a.cycle) in
    let same : length us ≡ length ts = omega (arith, short, long) in
    same_order _ ts us refl (a.first us (start, b.cycle) same) (b.first ts (sym start, a.cycle) (sym same))
