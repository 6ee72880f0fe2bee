-- What a device was given, and what it gave.
use Rattle.std.specs.Prelude.{◌≡◌, ◌≤◌, ℕ, zero, suc, ◌+◌, ◌-◌, ◌%◌, ◌^◌, ◌⊎◌, List, [], ◌∷◌, ◌++◌, Option, option_map, Result, Ok, Err}
use Rattle.bf_device.specs.declared.device.Halt.{Halt}
use Rattle.bf_device.specs.declared.device.Halt.TheVariants.{Again, Failed}

-- the bytes that went out, with more behind them, where they are told
abbrev pub sent : Option (List ℕ) → List ℕ → Option (List ℕ)
sent told bytes = option_map (λ before. before ++ bytes) told

-- a counter of 64 bits has gone on by n
abbrev pub WentOn : ℕ → ℕ → ℕ → Type 0
WentOn n old new = new % 2 ^ 64 ≡ (old + n) % 2 ^ 64

-- how many bytes a call took
abbrev pub taken : Result ℕ Halt → ℕ
taken (Ok n) = n
taken (Err halt) = 0

-- 1 for an interruption
abbrev pub interrupted : Result ℕ Halt → ℕ
interrupted (Ok n) = 0
interrupted (Err Again) = 1
interrupted (Err Failed) = 0

-- 1 for a write of these bytes that failed, or took none of some
abbrev pub write_failed : List ℕ → Result ℕ Halt → ℕ
write_failed [] (Ok n) = 0
write_failed (b ∷ bs) (Ok zero) = 1
write_failed (b ∷ bs) (Ok (suc n)) = 0
write_failed bs (Err Again) = 0
write_failed bs (Err Failed) = 1

-- 1 for a read that failed
abbrev pub read_failed : Result ℕ Halt → ℕ
read_failed (Ok n) = 0
read_failed (Err Again) = 0
read_failed (Err Failed) = 1

-- one call failed, or there were more interruptions than a call goes on after
abbrev pub HasHalted : ℕ → ℕ → ℕ → ℕ → Type 0
HasHalted failures_old failures_new interruptions_old interruptions_new =
    WentOn 1 failures_old failures_new ⊎ WentOn 1_001 interruptions_old interruptions_new

-- one call failed, or with those before, there were more interruptions than a call goes on after
abbrev pub HasHaltedBehind : ℕ → ℕ → ℕ → ℕ → ℕ → Type 0
HasHaltedBehind before failures_old failures_new interruptions_old interruptions_new =
    WentOn 1 failures_old failures_new
    ⊎ WentOn (1_001 - before) interruptions_old interruptions_new

-- no call failed, and the interruptions were counted on, up to as many as a call goes on after
pub record HasCounted (before after failures_old failures_new interruptions_old interruptions_new : ℕ) : Type 0 where
  pub rises : before ≤ after
  pub few : after ≤ 1_000
  pub unfailed : WentOn 0 failures_old failures_new
  pub interrupted_so : WentOn (after - before) interruptions_old interruptions_new

-- no call failed, and there were no more interruptions than a call goes on after
abbrev pub HasGoneOn : ℕ → ℕ → ℕ → ℕ → Type 0
HasGoneOn failures_old failures_new interruptions_old interruptions_new =
    WentOn 0 failures_old failures_new
    × ((n : ℕ) × (n ≤ 1_000) × WentOn n interruptions_old interruptions_new)
