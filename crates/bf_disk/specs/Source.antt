-- What a source gives of a file.
use Rattle.std.specs.Prelude.{◌≡◌, ◌≢◌, ◌+◌, ◌++◌, ℕ, List, take, Option, Some, None, Result, Ok, Err, Vec, find, option_map, ⊤}
use Rattle.std.specs.Global.{Global}
use Rattle.std.specs.Str.{bytes_eq}
use Rattle.bf_disk.specs.declared.source.SourceFault.{SourceFault}
use Rattle.bf_disk.specs.declared.source.SourceFault.TheVariants.{OutOfMemory}

-- a device that has all these bytes before it, of a file that holds them, and a fault for one that can't be read
abbrev pub Opens : {D : Type 0} → (D → Option (List ℕ)) → Option (List ℕ) → Result D SourceFault
    → Type 0
Opens left (Some held) (Ok device) = left device ≡ Some held
Opens left (Some held) (Err fault) = fault ≡ OutOfMemory
Opens left None (Ok device) = ⊥
Opens left None (Err fault) = ⊤

-- no such device is ever interrupted, and none ever fails
abbrev pub NeverHalts : {D : Type 0} → (D → ℕ) → (D → ℕ) → Type 0
NeverHalts {D} interruptions failures =
    (device : D) → (interruptions device ≡ 0) × (failures device ≡ 0)

-- the first bytes of a file that holds these, and a fault for one that can't be read
abbrev pub GivesFirst : ℕ → Option (List ℕ) → Result (Vec ℕ Global) SourceFault → Type 0
GivesFirst count (Some held) (Ok bytes) = bytes.items ≡ take count held
GivesFirst count (Some held) (Err fault) = fault ≡ OutOfMemory
GivesFirst count None (Ok bytes) = ⊥
GivesFirst count None (Err fault) = ⊤

-- all bytes of a file that begins with these, and none of one that begins otherwise
abbrev pub IsBehind : List ℕ → List ℕ → Option (Vec ℕ Global) → Type 0
IsBehind front held (Some bytes) = bytes.items ≡ held
IsBehind front held None = (rest : List ℕ) → held ≢ front ++ rest

-- and a fault for one that can't be read
abbrev pub GivesBehind : List ℕ → Option (List ℕ) → Result (Option (Vec ℕ Global)) SourceFault
    → Type 0
GivesBehind front (Some held) (Ok read) = IsBehind front held read
GivesBehind front (Some held) (Err fault) = fault ≡ OutOfMemory
GivesBehind front None (Ok read) = ⊥
GivesBehind front None (Err fault) = ⊤

-- what the first file of this path holds
abbrev pub file_in : List (List ℕ × List ℕ) → List ℕ → Option (List ℕ)
file_in files path = option_map (λ f. f.1) (find (λ f. bytes_eq f.0 path) files)

-- the first bytes of a file, one more than it may have at most: so all of them, or so many that it shows to be too long
abbrev pub IsWholeUpTo : ℕ → Option (List ℕ) → List ℕ → Type 0
IsWholeUpTo longest None bytes = ⊥
IsWholeUpTo longest (Some held) bytes =
    bytes ≡ take (longest + 1) held
