-- The bytes of a device that were read and not used yet.
use Rattle.std.specs.Prelude.{◌≡◌, ◌≤◌, ◌<◌, ◌==◌, ◌+◌, ℕ, Bool, false, if◌then◌else◌, List, ◌∷◌, ◌++◌, length, take, drop, position, Option, IfSome}
use Rattle.std.specs.Io.KnownBytes.{prepend_known}
use Rattle.bf_device.specs.Device.{WentOn, HasHalted}
use Rattle.bf_report_reader.specs.declared.held.ReadBuffer.{ReadBuffer}
use Rattle.bf_report_reader.specs.Faults.{IsInLine, longest_line}

-- the bytes that were read and not used yet
abbrev pub held_bytes : ReadBuffer → List ℕ
held_bytes held = drop held.start (take held.end held.room.items)

-- the line before them that was taken off whole
abbrev pub held_line : ReadBuffer → List ℕ
held_line held = drop held.line_start (take held.line_end held.room.items)

-- a line was taken off whole, with its line feed
pub record TakesLine (old new : ReadBuffer) : Type 0 where
  pub taken : held_bytes old ≡ held_line new ++ 10 ∷ held_bytes new
  pub in_line : IsInLine (held_line new)
  pub short : length (held_line new) ≤ longest_line (held_line new)
  pub same : new.interruptions ≡ old.interruptions

-- no line is held whole, or one that is longer than some may be, and all is as it was
pub record KeepsAll (old new : ReadBuffer) : Type 0 where
  pub none : IfSome (position (λ byte. byte == 10) (held_bytes old)) (λ at. 66_000 < at)
  pub same : new ≡ old

-- the bytes to come, where the device tells what it has left
abbrev pub ahead : ReadBuffer → Option (List ℕ) → Option (List ℕ)
ahead held left = prepend_known (held_bytes held) left

-- since there were `base` interruptions and `failed` failures it was interrupted that often, and didn't fail
abbrev pub IsTallied : ℕ → ℕ → ℕ → ℕ → ℕ → Type 0
IsTallied base failed count interruptions failures =
    WentOn count base interruptions × WentOn 0 failed failures

-- what was tallied before is tallied still
abbrev pub Tallies : ℕ → ℕ → ℕ → ℕ → ℕ → ℕ → Type 0
Tallies count interruptions failures count' interruptions' failures' =
    (base failed : ℕ) → IsTallied base failed count interruptions failures
    → IsTallied base failed count' interruptions' failures'

-- what was tallied before has become too much
abbrev pub Breaks : ℕ → ℕ → ℕ → ℕ → ℕ → Type 0
Breaks count interruptions failures interruptions' failures' =
    (base failed : ℕ) → IsTallied base failed count interruptions failures
    → HasHalted failed failures' base interruptions'

-- a line has come on by a piece of the bytes to come, which has all that the line may have and one more at most; where the
-- line ended, its line feed was let go of, and else the piece has some
pub record MovesPiece (ended : Bool) (old new line longer : List ℕ) : Type 0 where
  pub piece : List ℕ
  pub taken : old ≡ piece ++ (if ended then 10 ∷ new else new)
  pub added : longer ≡ line ++ piece
  pub in_line : IsInLine piece
  pub few : length longer + (if ended then 1 else 0) ≤ longest_line line + 1
  pub some : 0 < length old → ended ≡ false → 0 < length piece
