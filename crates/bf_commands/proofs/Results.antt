-- What a function's result has by that of a function that it calls.
use Rattle.std.proofs.Common.{ℕ, Bool, List, Option, Result, IfOk, IfErr}
use Rattle.std.proofs.lemmas.Result.{IfOk-weaker}
use Rattle.bf_command_fault.specs.Refusal.{Leaves, Sends}
use Rattle.bf_command_fault.specs.declared.fault.CommandFault.{CommandFault}
use Rattle.bf_command_fault.proofs.Leaving.{leaves_due_in}

-- a text that is due for one reason is due for another: where it is sent, and where a fault leaves a part of it
module _ {P Q : List ℕ → Bool → Type 0} (is : (text : List ℕ) (success : Bool) → P text success → Q text success) where
  pub sends_as : (before after : Option (List ℕ)) (r : Result Bool CommandFault) → IfOk r (λ success. Sends (λ text. P text success) before after) → IfOk r (λ success. Sends (λ text. Q text success) before after)
  sends_as before after r = IfOk-weaker r _ _ (λ success sends. (sends.0, is sends.0 success sends.1, sends.2))

  pub leaves_as : (Halted : Type 0) (before after : Option (List ℕ)) (r : Result Bool CommandFault) → IfErr r (Leaves Halted (λ text. (success : Bool) × P text success) before after)
      → IfErr r (Leaves Halted (λ text. (success : Bool) × Q text success) before after)
  leaves_as Halted before after r = leaves_due_in Halted _ _ (λ text due. (due.0, is text due.0 due.1)) before after r
