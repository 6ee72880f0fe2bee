-- Pools with what is occupied of them.
use Rattle.std.specs.Prelude.{◌≡◌, ◌≢◌, ℕ, ◌≤◌, List, length, slice_index_or}

-- how many slots each pool has, and how many of them are occupied
pub record Slots : Type 0 where
  pub sizes : List ℕ
  pub occupied : List ℕ

abbrev pub size_of : Slots → ℕ → ℕ
size_of slots pool = slice_index_or slots.sizes pool 0

abbrev pub occupied_of : Slots → ℕ → ℕ
occupied_of slots pool = slice_index_or slots.occupied pool 0

-- that many slots of the pool are occupied, and of the others as many as before
pub record HasOccupied (old : Slots) (pool count : ℕ) (new : Slots) : Type 0 where
  pub sizes : new.sizes ≡ old.sizes
  pub here : occupied_of new pool ≡ count
  pub elsewhere : (other : ℕ) → other ≢ pool → occupied_of new other ≡ occupied_of old other

-- no pool has more slots occupied than it has
pub record AreWithin (slots : Slots) : Type 0 where
  pub one_each : length slots.occupied ≡ length slots.sizes
  pub within : (pool : ℕ) → occupied_of slots pool ≤ size_of slots pool
