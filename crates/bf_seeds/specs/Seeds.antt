-- Lines of a seeds file, and what they say.
use Rattle.std.specs.Prelude.{◌≡◌, ◌⊎◌, ℕ, ◌<◌, ◌==◌, nat_lt, ◌≤◌, IsUtf8, ℤ, pos, negsuc, Bool, true, false, not, List, [], ◌∷◌, ◌++◌, length, codes, decimal, Option, Some, None}
use Rattle.std.specs.List.{after_first, before_first, filter, position_or_len}
use Rattle.std.specs.Str.Lines.{lines}
use Rattle.jiff.specs.declared.timestamp.Timestamp.{Timestamp}
use Rattle.bf_interval.specs.declared.interval.Interval.{Interval}
use Rattle.bf_moment.specs.Moment.{Spells, nearest}
use Rattle.bf_plan.specs.declared.plan.Dag.{Dag}
use Rattle.bf_dependents.specs.declared.place.Place.{Place}
use Rattle.bf_dependents.specs.declared.seeds.Seed.{Seed}
use Rattle.bf_dependents.specs.Faults as clearing
use Rattle.bf_dependents.specs.Seeds.{places_in, seed_fault}
use Rattle.bf_quoted.specs.Values.{shown}
use Rattle.bf_wording.specs.Values.{cut}
use Rattle.bf_seeds.specs.declared.fault.SeedsFault.{SeedsFault}
use Rattle.bf_seeds.specs.declared.fault.SeedsFault.TheVariants.{BadFile, BadSeed, Unknown, OutOfMemory}

-- the number of the refusal, which want of memory doesn't have
abbrev pub refusal_number_of : SeedsFault → Option ℕ
refusal_number_of BadFile = Some 45
refusal_number_of (BadSeed line) = Some 45
refusal_number_of (Unknown fault) = clearing.refusal_number_of fault
refusal_number_of OutOfMemory = None

-- why no seeds are read, as it is printed
abbrev pub fault_text : SeedsFault → List ℕ
fault_text BadFile = codes "bad seed: file"
fault_text (BadSeed line) = codes "bad seed: " ++ line
fault_text (Unknown fault) = clearing.fault_text fault
fault_text OutOfMemory = codes "out of memory"

-- ---- a line

abbrev pub is_space : ℕ → Bool
is_space byte = byte == 32

abbrev pub parts : Bool → List ℕ → Option (List ℕ × List ℕ)
parts true text = Some (before_first is_space text, after_first is_space text)
parts false text = None

-- what stands before the first space, and what behind it
abbrev pub split_at_space_of : List ℕ → Option (List ℕ × List ℕ)
split_at_space_of text = parts (nat_lt (position_or_len is_space text) (length text)) text

-- the text means this moment
abbrev pub Means : List ℕ → Timestamp → Type 0
Means text t = (n : ℤ) × (Spells text n × (t.nanosecond ≡ nearest n))

-- a map index, as reports show it: a number, or -1
abbrev pub SpellsIndex : List ℕ → ℤ → Type 0
SpellsIndex text index =
    ((text ≡ codes "-1") × (index ≡ negsuc 0))
    ⊎ ((n : ℕ) × (n < 2_147_483_648) × (text ≡ decimal n) × (index ≡ pos n))

-- a task, or a task and a map index behind a space
abbrev pub SpellsTask : List ℕ → Option (List ℕ × List ℕ) → List ℕ → Option ℤ → Type 0
SpellsTask text None task index = (task ≡ text) × (0 < length text) × (index ≡ None)
SpellsTask text (Some (first, rest)) task index =
    (task ≡ first) × (0 < length first) × ((i : ℤ) × (index ≡ Some i) × SpellsIndex rest i)

-- the two parts of a line say this seed
abbrev pub SpellsParts : Option (List ℕ × List ℕ) → Seed → Type 0
SpellsParts None seed = ⊥
SpellsParts (Some (run, rest)) seed =
    Means run seed.run × SpellsTask rest (split_at_space_of rest) seed.task seed.index

-- the line is a moment and a task, and maybe a map index, with one space between them
abbrev pub SpellsSeed : List ℕ → Seed → Type 0
SpellsSeed line seed = SpellsParts (split_at_space_of line) seed

abbrev pub is_filled : List ℕ → Bool
is_filled line = not (length line == 0)

-- the lines of a text, but for empty ones
abbrev pub lines_in : List ℕ → List (List ℕ)
lines_in text = filter is_filled (lines text)

-- ---- lines of a plan and its runs

-- the line is of this seed, whose task and run are known
abbrev pub IsSeedOf : Dag → List Interval → List ℕ → Seed → Type 0
IsSeedOf dag intervals line seed =
    SpellsSeed line seed × (seed_fault dag intervals (seed ∷ []) ≡ None)

-- the lines are of these seeds, in order
abbrev pub AreSeeds : Dag → List Interval → List (List ℕ) → List Seed → Type 0
AreSeeds dag intervals [] [] = Unit {0}
AreSeeds dag intervals (line ∷ lines) (seed ∷ seeds) =
    IsSeedOf dag intervals line seed × AreSeeds dag intervals lines seeds
AreSeeds dag intervals _ _ = ⊥

-- the seeds of the lines name these places, in order
abbrev pub ArePlaces : Dag → List Interval → List (List ℕ) → List Place → Type 0
ArePlaces dag intervals lines places =
    (seeds : List Seed) × AreSeeds dag intervals lines seeds
    × (places ≡ places_in dag intervals seeds)

-- a bad line as it is told: as a terminal shows it, up to the 200th character
abbrev pub told_line_of : List ℕ → List ℕ
told_line_of line = cut 200 (shown line)

-- why a line is refused: it is of no seed, and else its seed is
abbrev pub IsFaultOfLine : Dag → List Interval → List ℕ → SeedsFault → Type 0
IsFaultOfLine dag intervals line BadFile = ⊥
IsFaultOfLine dag intervals line (BadSeed bad) =
    (bad ≡ told_line_of line) × ((seed : Seed) → SpellsSeed line seed → ⊥)
IsFaultOfLine dag intervals line (Unknown fault) =
    (seed : Seed) × SpellsSeed line seed × (seed_fault dag intervals (seed ∷ []) ≡ Some fault)
IsFaultOfLine dag intervals line OutOfMemory = Unit {0}

-- the first of the lines that isn't of a seed that is known
pub record IsEarliest (dag : Dag) (intervals : List Interval) (lines : List (List ℕ))
    (fault : SeedsFault) : Type 0 where
  pub before : List (List ℕ)
  pub line : List ℕ
  pub behind : List (List ℕ)
  pub parts : lines ≡ before ++ line ∷ behind
  pub seeds : List Seed
  pub known : AreSeeds dag intervals before seeds
  pub is_fault : IsFaultOfLine dag intervals line fault

-- why the lines are refused
abbrev pub IsFirstFault : Dag → List Interval → List (List ℕ) → SeedsFault → Type 0
IsFirstFault dag intervals lines OutOfMemory = Unit {0}
IsFirstFault dag intervals lines fault = IsEarliest dag intervals lines fault

-- ---- files

-- the bytes may be those of a seeds file
abbrev pub IsSeedsText : List ℕ → Type 0
IsSeedsText bytes = (length bytes ≤ 8_388_608) × IsUtf8 bytes

-- the lines of the bytes name these places, in order
abbrev pub ArePlacesOfFile : Dag → List Interval → List ℕ → List Place → Type 0
ArePlacesOfFile dag intervals bytes places =
    IsSeedsText bytes × ArePlaces dag intervals (lines_in bytes) places

-- why the bytes are refused: as a whole, or for their first line that is of no seed that is known
abbrev pub IsFaultOfFile : Dag → List Interval → List ℕ → SeedsFault → Type 0
IsFaultOfFile dag intervals bytes BadFile = ¬ (IsSeedsText bytes)
IsFaultOfFile dag intervals bytes OutOfMemory = Unit {0}
IsFaultOfFile dag intervals bytes fault =
    IsSeedsText bytes × IsEarliest dag intervals (lines_in bytes) fault
