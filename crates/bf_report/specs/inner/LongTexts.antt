-- What is counted as a long text grows and goes out.
use Rattle.std.specs.Prelude.{◌≡◌, ◌≤◌, ◌<◌, ◌+◌, ◌-◌, ◌^◌, ℕ, List, Option, length, take}
use Rattle.bf_device.specs.Device.{sent}

-- a counter of 64 bits has gone on by so many
abbrev pub HasGrownBy : ℕ → ℕ → ℕ → Type 0
HasGrownBy more before after = (after ≡ before + more) × (after < 2 ^ 64)

-- a first part of these bytes went out behind `before` others, which makes `after`
abbrev pub HasSentPart : ℕ → ℕ → List ℕ → Option (List ℕ) → Option (List ℕ) → Type 0
HasSentPart before after bytes written_old written_new =
    (before ≤ after) × (after ≤ before + length bytes)
    × (written_new ≡ sent written_old (take (after - before) bytes))
