-- What a fault leaves of a text that was due.
use Rattle.std.proofs.Common.{◌≡◌, ◌≤◌, ℕ, List, [], Option, Some, None, Result, Ok, Err, IfErr, IsSome, length, take, refl, sym, ◌∙◌, ap, append-nil, true≢false}
use Rattle.bf_device.specs.Device.{sent}
use Rattle.bf_device.specs.declared.sending.Cause.{Cause}
use Rattle.bf_device.specs.declared.sending.Cause.TheVariants as cause
use Rattle.bf_device.specs.declared.sending.WriteFault.{WriteFault}
use Rattle.bf_command_fault.specs.Refusal.{Leaves, number_of, of_cause, of_write}
use Rattle.bf_command_fault.specs.declared.fault.CommandFault.{CommandFault}
use Rattle.bf_command_fault.specs.declared.fault.CommandFault.TheVariants.{CannotWrite}

-- the first bytes of a text went out, or none
sent_none : (before : Option (List ℕ)) → sent before [] ≡ before
sent_none None = refl
sent_none (Some bytes) = ap Some (append-nil bytes)

module _ (Halted : Type 0) (IsDue : List ℕ → Type 0) (before after : Option (List ℕ)) (text : List ℕ) (due : IsDue text) where
  left_by : (c : Cause) (n : ℕ) → (n ≤ length text) × (after ≡ sent before (take n text)) → (c ≡ cause.Io → Halted) → (c ≡ cause.OutOfMemory → n ≡ 0) → Leaves Halted IsDue before after (of_cause c n)
  left_by cause.Io n part io memory = (io refl, text, due, part.0, part.1)
  left_by cause.OutOfMemory n part io memory = part.1 ∙ (ap (λ k. sent before (take k text)) (memory refl) ∙ sent_none before)

  pub write_leaves : (fault : WriteFault) → (fault.sent ≤ length text) × (after ≡ sent before (take fault.sent text)) → (fault.cause ≡ cause.Io → Halted) → (fault.cause ≡ cause.OutOfMemory → fault.sent ≡ 0)
      → Leaves Halted IsDue before after (of_write fault)
  write_leaves fault part io memory = left_by fault.cause fault.sent part io memory

  pub send_leaves : (fault : WriteFault) → (fault.sent ≤ length text) × (after ≡ sent before (take fault.sent text)) → fault.cause ≡ cause.Io → Halted → Leaves Halted IsDue before after (of_write fault)
  send_leaves fault part only halted = write_leaves fault part (λ io. halted) (λ memory. (let bad : cause.Io ≡ cause.OutOfMemory = sym only ∙ memory in cc))

-- a text that is due for one reason is due for another
module _ (Halted : Type 0) (P Q : List ℕ → Type 0) (is : (text : List ℕ) → P text → Q text) (before after : Option (List ℕ)) where
  pub leaves_due : (fault : CommandFault) → Leaves Halted P before after fault → Leaves Halted Q before after fault
  leaves_due (CannotWrite n) left = (left.0, left.1, is left.1 left.2, left.3, left.4)
  leaves_due _ left = left

  pub leaves_due_in : {A : Type 0} (r : Result A CommandFault) → IfErr r (Leaves Halted P before after) → IfErr r (Leaves Halted Q before after)
  leaves_due_in (Ok x) left = tt
  leaves_due_in (Err fault) left = leaves_due fault left

-- a refusal leaves nothing
module _ (Halted : Type 0) (IsDue : List ℕ → Type 0) (before after : Option (List ℕ)) where
  pub refusal_leaves : (fault : CommandFault) → Leaves Halted IsDue before after fault → IsSome (number_of fault) → after ≡ before
  refusal_leaves (CannotWrite n) left some = absurd (true≢false (sym some))
  refusal_leaves _ left some = left
