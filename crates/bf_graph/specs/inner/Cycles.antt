-- The cycle that is named where there are cycles.
use Rattle.std.specs.Prelude.{◌≡◌, ◌≢◌, ◌<◌, ◌≤◌, ◌+◌, ◌↔◌, ℕ, suc, List, [], ◌∷◌, length, slice_index, Contains, Bool, true, false}
use Rattle.std.specs.Cmp.Lexicographic.{slice_cmp}
use Rattle.std.specs.Ordering.{nat_cmp}
use Rattle.std.specs.declared.cmp.Ordering.TheVariants.{Greater}
use Rattle.bf_graph.specs.Edges.{IsUpstream}
use Rattle.bf_graph.specs.Reach.{IsPath, Reaches, is_marked_in, row_at}
use Rattle.bf_graph.specs.Cycles.{IsCycleFrom}

-- ---- while it is found

-- some task lies on a cycle
abbrev pub HasCycle : List (List ℕ) → Type 0
HasCycle ups = (t : ℕ) × Reaches ups t t

-- how many of these are no marks
abbrev pub unmarked_in : List Bool → ℕ
unmarked_in [] = 0
unmarked_in (false ∷ marks) = suc (unmarked_in marks)
unmarked_in (true ∷ marks) = unmarked_in marks

-- the marks are on these tasks, and each of these was marked once
pub record AreMarked (found : List ℕ) (marks : List Bool) : Type 0 where
  pub marked : (t : ℕ) → (is_marked_in marks t ≡ true) ↔ Contains found t
  pub once : unmarked_in marks + length found ≡ length marks

-- after the old ones only tasks of these were added, and now all of them are there
pub record AreAdded (old tasks new : List ℕ) : Type 0 where
  pub longer : length old ≤ length new
  pub kept : (k : ℕ) → k < length old → slice_index new k ≡ slice_index old k
  pub only : (k : ℕ) → length old ≤ k → k < length new → Contains tasks (slice_index new k)
  pub all : (t : ℕ) → Contains tasks t → Contains new t

-- the tasks that reach t, each at a place that is no less than the edges that it needs beyond one
pub record AreReaching (ups : List (List ℕ)) (t : ℕ) (found : List ℕ) : Type 0 where
  pub near : (k : ℕ) → k < length found → (n : ℕ) × (n ≤ k)
      × IsPath ups (slice_index found k) (suc n) t
  pub all : (a : ℕ) → Reaches ups a t → Contains found a

-- the marks say from which tasks n edges lead to t
pub record IsLevel (ups : List (List ℕ)) (t n : ℕ) (level : List Bool) : Type 0 where
  pub len : length level ≡ length ups
  pub right : (a : ℕ) → a < length ups → (is_marked_in level a ≡ true) ↔ IsPath ups a n t

-- a is a direct upstream of a marked task
abbrev pub IsAbove : List (List ℕ) → List Bool → ℕ → Type 0
IsAbove ups level a =
    (u : ℕ) × (u < length ups) × (is_marked_in level u ≡ true) × IsUpstream ups a u

-- these marks are on the direct upstreams of the tasks with those marks
pub record AreAbove (ups : List (List ℕ)) (level above : List Bool) : Type 0 where
  pub len : length above ≡ length ups
  pub right : (a : ℕ) → a < length ups → (is_marked_in above a ≡ true) ↔ IsAbove ups level a

-- the levels of t up to the first, past its own, that marks it
pub record AreLevels (ups : List (List ℕ)) (t last : ℕ) (levels : List (List Bool)) : Type 0 where
  pub len : length levels ≡ suc last
  pub some : 0 < last
  pub right : (n : ℕ) → n ≤ last → IsLevel ups t n (row_at levels n)
  pub path : IsPath ups t last t
  pub first : (n : ℕ) → 0 < n → n < last → IsPath ups t n t → ⊥

-- d is the earliest direct downstream of a that is marked
pub record IsEarliestNext (ups : List (List ℕ)) (level : List Bool) (a d : ℕ) : Type 0 where
  pub within : d < length ups
  pub marked : is_marked_in level d ≡ true
  pub edge : IsUpstream ups a d
  pub earliest : (x : ℕ) → x < d → is_marked_in level x ≡ true → IsUpstream ups a x → ⊥

-- of the cycles of `last` tasks that begin with t the first by the numbers of its tasks
pub record IsFirstShortest (ups : List (List ℕ)) (t last : ℕ) (ts : List ℕ) : Type 0 where
  pub cycle : IsCycleFrom ups t ts
  pub len : length ts ≡ last
  pub first : (us : List ℕ) → IsCycleFrom ups t us → length us ≡ length ts → slice_cmp nat_cmp ts us
      ≢ Greater
