-- What is done to put a new file in the place of another, and what stands under its path at each moment.
use Rattle.std.specs.Prelude.{◌≡◌, ◌≤◌, ◌⊎◌, ℕ, Bool, true, false, List, [], ◌∷◌, ◌++◌, length, take, Option, None, Some, option_map, unwrap_or, Result, Ok, Err}
use Rattle.std.specs.List.{list_all}
use Rattle.bf_file.specs.declared.call.Call.{Call}
use Rattle.bf_file.specs.declared.call.Placed.{Placed}
use Rattle.bf_file.specs.declared.fault.PlaceFault.{PlaceFault}

-- the calls that were made, with one more behind them, where they are told
abbrev pub made : Option (List Call) → Call → Option (List Call)
made told call = option_map (λ calls. calls ++ call ∷ []) told

-- all bytes that were written
abbrev pub text_by : List Call → List ℕ
text_by [] = []
text_by (Call.Wrote bytes ∷ calls) = bytes ++ text_by calls
text_by (Call.Synced ∷ calls) = text_by calls
text_by (Call.Renamed ∷ calls) = text_by calls

abbrev pub is_write : Call → Bool
is_write (Call.Wrote bytes) = true
is_write Call.Synced = false
is_write Call.Renamed = false

-- a text is written, then synced, and only then renamed
pub record IsReplacing (text : List ℕ) (calls : List Call) : Type 0 where
  pub writes : List Call
  pub are_writes : list_all is_write writes ≡ true
  pub text_is : text_by writes ≡ text
  pub in_order : calls ≡ writes ++ Call.Synced ∷ Call.Renamed ∷ []

-- a text is written, then synced, and the rename of it fails
pub record IsStored (text : List ℕ) (calls : List Call) : Type 0 where
  pub writes : List Call
  pub are_writes : list_all is_write writes ≡ true
  pub text_is : text_by writes ≡ text
  pub in_order : calls ≡ writes ++ Call.Synced ∷ []

-- the first bytes of a text, at least so many
abbrev pub IsFront : List ℕ → ℕ → Option (List ℕ) → Type 0
IsFront text least now = (n : ℕ) × (least ≤ n) × (now ≡ Some (take n text))

-- what the new file's own name may hold where it had this text, so many bytes of it on the disk, if it is there: the first bytes, at
-- least those; and where it isn't there, maybe nothing
abbrev pub MayStand : List ℕ → Option ℕ → Option (List ℕ) → Type 0
MayStand text None beside = (beside ≡ None) ⊎ IsFront text 0 beside
MayStand text (Some safe) beside = IsFront text safe beside

-- what a path, and beside it the new file's own name, may hold where the machine fails behind these calls, and the new file had this text
-- before them, so many bytes of it on the disk: what the path held, beside what may stand there; and behind the rename that still, since
-- nothing waits for the disk to have it, or at the path the new text, of which what isn't on the disk may be lost, and nothing beside it
abbrev pub MayHoldBehind : Option (List ℕ) → List ℕ → Option ℕ → List Call → Option (List ℕ)
    → Option (List ℕ) → Type 0
MayHoldBehind held text safe [] now beside = (now ≡ held) × MayStand text safe beside
MayHoldBehind held text safe (Call.Wrote bytes ∷ calls) now beside =
    MayHoldBehind held (text ++ bytes) safe calls now beside
MayHoldBehind held text safe (Call.Synced ∷ calls) now beside =
    MayHoldBehind held text (Some (length text)) calls now beside
MayHoldBehind held text safe (Call.Renamed ∷ calls) now beside =
    ((now ≡ held) × MayStand text safe beside)
    ⊎ (IsFront text (unwrap_or safe 0) now × (beside ≡ None))

-- what a path that held this, and beside it the new file's own name, may hold where the machine fails behind these calls
abbrev pub MayHold : Option (List ℕ) → List Call → Option (List ℕ) → Option (List ℕ) → Type 0
MayHold held calls now beside = MayHoldBehind held [] None calls now beside

-- what a path holds behind these calls where the machine goes on, and the new file had this text before them: until the rename what the
-- path held, and from then on the new text
abbrev pub held_behind : Option (List ℕ) → List ℕ → List Call → Option (List ℕ)
held_behind held text [] = held
held_behind held text (Call.Wrote bytes ∷ calls) = held_behind held (text ++ bytes) calls
held_behind held text (Call.Synced ∷ calls) = held_behind held text calls
held_behind held text (Call.Renamed ∷ calls) = Some text

-- what a path that held this holds behind these calls where the machine goes on
abbrev pub held_after : Option (List ℕ) → List Call → Option (List ℕ)
held_after held calls = held_behind held [] calls

-- the paths that were given new files, with one more behind them, where all is told
abbrev pub placed_with : Option (List Placed) → Option (List ℕ) → Option (List Call)
    → Option (List Placed)
placed_with (Some placed) (Some path) (Some calls) =
    Some (placed ++ record { path = path; calls = calls ++ Call.Renamed ∷ [] } ∷ [])
placed_with (Some placed) (Some path) None = None
placed_with (Some placed) None calls = None
placed_with None path calls = None

-- this path was given a file of this text, which was written, synced and renamed, where all is told
abbrev pub HasReplaced : Option (List Placed) → Option (List Placed) → List ℕ → List ℕ → Type 0
HasReplaced (Some before) after path text = (calls : List Call) × IsReplacing text calls
    × (after ≡ Some (before ++ record { path = path; calls = calls } ∷ []))
HasReplaced None after path text = Unit {0}

-- the new files that stay under their own names, with one more behind them, where all is told
abbrev pub left_with : Option (List Placed) → List ℕ → Option (List Call) → Option (List Placed)
left_with (Some left) name (Some calls) =
    Some (left ++ record { path = name; calls = calls } ∷ [])
left_with (Some left) name None = None
left_with None name calls = None

-- those that stay where a new file isn't at its path: one more, unless it is lost
abbrev pub left_at : Option (List Placed) → Option (List Call) → PlaceFault → Option (List Placed)
left_at left calls (PlaceFault.Lost fault) = left
left_at left calls (PlaceFault.Left name) = left_with left name calls

-- those that stay behind a rename
abbrev pub left_behind : Option (List Placed) → Option (List Call) → Result (Unit {0}) PlaceFault
    → Option (List Placed)
left_behind left calls (Ok done) = left
left_behind left calls (Err fault) = left_at left calls fault

-- a new file stays under this name that has this text, which was written and synced, where all is told
abbrev pub HasLeft : Option (List Placed) → Option (List Placed) → List ℕ → List ℕ → Type 0
HasLeft (Some before) (Some after) name text = (calls : List Call) × IsStored text calls
    × (after ≡ before ++ record { path = name; calls = calls } ∷ [])
HasLeft (Some before) None name text = Unit {0}
HasLeft None after name text = Unit {0}

-- these calls are writes alone, where they are told
abbrev pub only_writes : Option (List Call) → Bool
only_writes None = true
only_writes (Some calls) = list_all is_write calls
