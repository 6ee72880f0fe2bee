-- What commands come to where `?` passes a fault up, and where their runs have ended.
use Rattle.std.proofs.Common.{◌≡◌, ℕ, Bool, List, Option, Result, Ok, Err, IfOk, IfErr, IsErrAnd, IsOkAnd, MatchResult, sym, subst}
use Rattle.bf_command_fault.specs.Refusal.{Leaves, Sends}
use Rattle.bf_command_fault.specs.Status.{of_runs}
use Rattle.bf_command_fault.specs.declared.fault.CommandFault.{CommandFault}
use Rattle.bf_command_fault.specs.declared.fault.CommandFault.TheVariants.{OutOfMemory, CannotRead}
use Rattle.bf_command_fault.specs.declared.status.Status.{Status}
use Rattle.bf_command_fault.proofs.Leaving.{leaves_due}
use Rattle.bf_commands.proofs.Faults.{unwritten_leaves}
use Rattle.bf_disk.specs.Files.{Files, IsFirstUntold}
use Rattle.bf_input.specs.Inputs.{IsReadingFault}

-- where files can't be read, memory was wanting, or one of them can't be read
pub reading_cases : (files : Files) (paths : List (List ℕ)) (P : CommandFault → Type 0) → P OutOfMemory → ((path : List ℕ) → IsFirstUntold files paths path → P (CannotRead path))
    → (fault : CommandFault) → IsReadingFault files paths fault → P fault
reading_cases files paths P memory unread OutOfMemory is = memory
reading_cases files paths P memory unread (CannotRead path) is = unread path is
reading_cases files paths P memory unread fault is = absurd is

-- ---- a command that passes a fault up

-- it has no answer, and this is its fault and what it leaves
abbrev pub Fails : Result Status CommandFault → (Status → Type 0) → (CommandFault → Type 0) → (CommandFault → Type 0) → Type 0
Fails r IsAnswer IsFault IsLeft = record { answer : IfOk r IsAnswer; fault : IfErr r IsFault; left : IfErr r IsLeft }

pub fails : (r : Result Status CommandFault) (fault : CommandFault) (IsAnswer : Status → Type 0) (IsFault IsLeft : CommandFault → Type 0)
    → IsErrAnd r (λ f. f ≡ fault) → IsFault fault → IsLeft fault → Fails r IsAnswer IsFault IsLeft
fails (Ok status) fault IsAnswer IsFault IsLeft up is left = absurd up
fails (Err f) fault IsAnswer IsFault IsLeft up is left = record { answer = tt; fault = subst IsFault (sym up) is; left = subst IsLeft (sym up) left }

-- so it is where files can't be read
pub reading_fails : (r : Result Status CommandFault) (fault : CommandFault) (IsAnswer : Status → Type 0) (IsFault : CommandFault → Type 0) (Halted : Type 0) (IsDue : List ℕ → Type 0) (before : Option (List ℕ))
    → IsErrAnd r (λ f. f ≡ fault) → (files : Files) (paths : List (List ℕ)) → IsReadingFault files paths fault → IsFault OutOfMemory → ((path : List ℕ) → IsFirstUntold files paths path → IsFault (CannotRead path))
    → Fails r IsAnswer IsFault (Leaves Halted IsDue before before)
reading_fails r fault IsAnswer IsFault Halted IsDue before up files paths is memory unread =
    fails r fault IsAnswer IsFault (Leaves Halted IsDue before before) up (reading_cases files paths IsFault memory unread fault is)
    (unwritten_leaves Halted IsDue before (IsReadingFault files paths) (λ n written. written) fault is)

-- ---- a command whose answer says whether every run is a success

-- it ends as its runs do
abbrev pub EndsAs : Result Bool CommandFault → Result Status CommandFault → Type 0
EndsAs runs ends = MatchResult runs (λ success. IsOkAnd ends (λ status. status ≡ of_runs success)) (λ fault. ends ≡ Err fault)

ends_well : (runs : Result Bool CommandFault) (ends : Result Status CommandFault) → EndsAs runs ends → (P : Bool → Type 0) (Q : Status → Type 0) → ((success : Bool) → P success → Q (of_runs success)) → IfOk runs P → IfOk ends Q
ends_well (Ok success) (Ok status) same P Q is ok = subst Q (sym same) (is success ok)
ends_well (Ok success) (Err fault) same P Q is ok = absurd same
ends_well (Err fault) ends same P Q is ok = subst (λ (r : Result Status CommandFault). IfOk r Q) (sym same) tt

-- with their fault
pub ends_badly : (runs : Result Bool CommandFault) (ends : Result Status CommandFault) → EndsAs runs ends → (P Q : CommandFault → Type 0) → ((fault : CommandFault) → P fault → Q fault) → IfErr runs P → IfErr ends Q
ends_badly (Ok success) (Ok status) same P Q is err = tt
ends_badly (Ok success) (Err fault) same P Q is err = absurd same
ends_badly (Err fault) ends same P Q is err = subst (λ (r : Result Status CommandFault). IfErr r Q) (sym same) (is fault err)

module _ (Is : List ℕ → Bool → Type 0) (IsDue : List ℕ → Status → Type 0) (answer : (text : List ℕ) (success : Bool) → Is text success → IsDue text (of_runs success)) (before after : Option (List ℕ)) (runs : Result Bool CommandFault) (ends : Result Status CommandFault) (same : EndsAs runs ends) where
  -- what it sends
  pub runs_send : IfOk runs (λ success. Sends (λ text. Is text success) before after) → IfOk ends (λ status. Sends (λ text. IsDue text status) before after)
  runs_send = ends_well runs ends same _ _ (λ success sends. (sends.0, answer sends.0 success sends.1, sends.2))

  -- and what a fault leaves of it
  pub runs_leave : (Halted : Type 0) → IfErr runs (Leaves Halted (λ text. (success : Bool) × Is text success) before after) → IfErr ends (Leaves Halted (λ text. (status : Status) × IsDue text status) before after)
  runs_leave Halted = ends_badly runs ends same _ _ (λ fault left.
      leaves_due Halted (λ text. (success : Bool) × Is text success) (λ text. (status : Status) × IsDue text status) (λ text is. (of_runs is.0, answer text is.0 is.1)) before after fault left)
