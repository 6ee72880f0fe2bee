-- Devices that halt at one of several reads.
use Rattle.std.specs.Prelude.{ℕ}
use Rattle.bf_device.specs.Device.{HasHalted}

-- a device has halted since it was so
abbrev pub HasHaltedSince : {D : Type 0} → (D → ℕ) → (D → ℕ) → D → Type 0
HasHaltedSince {D} interruptions failures now = (before : D)
    × HasHalted (failures before) (failures now) (interruptions before) (interruptions now)
