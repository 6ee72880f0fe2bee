-- The times of the journal at a path.
use Rattle.std.proofs.Common.{◌≡◌, ◌≢◌, ◌++◌, ◌∷◌, ◌∙◌, ℕ, List, [], Option, None, Some, IfErr, IfOk, Result, sym, ap, subst}
use Rattle.std.proofs.lemmas.List.Elements.{All-cons, All-nil}
use Rattle.bf_plan.specs.declared.plan.Dag.{Dag}
use Rattle.bf_interval.specs.declared.interval.Interval.{Interval}
use Rattle.bf_journal.specs.declared.fault.JournalFault.{JournalFault}
use Rattle.bf_journal.specs.Heads.{head_text}
use Rattle.bf_times.specs.Times.{AreTimesOf, IsTimesFault, front_in}
use Rattle.bf_times.proofs.Ends.{front_first}
use Rattle.bf_command_fault.specs.declared.fault.CommandFault.{CommandFault}
use Rattle.bf_command_fault.specs.declared.fault.CommandFault.TheVariants.{CannotRead, Journal, OutOfMemory}
use Rattle.bf_command_fault.specs.Refusal.{of_journal}
use Rattle.bf_disk.specs.Files.{AreReadable, Files, IsHeld, IsHeldIfNamed, IsReadable, named_paths}
use Rattle.bf_input.specs.Inputs.{IsFrontFault}
use Rattle.bf_views.specs.Times.{AreTimesTold, IsJournalFault}
use Rattle.bf_views.specs.inner.Times.{IsJournalFaultAt, IsNamedJournalFault}

module _ (files : Files) (path : List ℕ) (dag : Dag) (intervals : List Interval) where
  -- it can't be read, or begins as none of the graph and the runs does
  pub front_fault : (front : List ℕ) → front ≡ front_in (head_text dag intervals []) → (fault : CommandFault) → IsFrontFault files path front fault
      → IsJournalFaultAt files path dag intervals fault
  front_fault front is (Journal JournalFault.Mismatch) fault = (
    fault.0,
    λ held told head has. (let first = front_first dag intervals held head has in
        fault.1 held told first.0 (first.1 ∙ ap (λ (f : List ℕ). f ++ first.0) (sym is))),
  )
  front_fault front is (CannotRead p) fault = fault
  front_fault front is OutOfMemory fault = tt
  front_fault front is other fault = absurd fault

  -- it is none of them
  pub times_fault : (bytes : List ℕ) → IsReadable (files path) → ((held : List ℕ) → IsHeld (files path) held → bytes ≡ held) → (fault : JournalFault)
      → IsTimesFault dag intervals bytes fault → IsJournalFaultAt files path dag intervals (of_journal fault)
  times_fault bytes readable whole JournalFault.OutOfMemory is = tt
  times_fault bytes readable whole JournalFault.Mismatch is =
      (readable, λ held told. subst (λ (b : List ℕ). IsTimesFault dag intervals b JournalFault.Mismatch) (whole held told) is)
  times_fault bytes readable whole (JournalFault.BadRecord number) is =
      (readable, λ held told. subst (λ (b : List ℕ). IsTimesFault dag intervals b (JournalFault.BadRecord number)) (whole held told) is)

  pub times_at : (bytes times : List ℕ) → ((held : List ℕ) → IsHeld (files path) held → bytes ≡ held) → AreTimesOf dag intervals bytes times
      → (held : List ℕ) → IsHeld (files path) held → AreTimesOf dag intervals held times
  times_at bytes times whole are held told = subst (λ (b : List ℕ). AreTimesOf dag intervals b times) (whole held told) are

  -- so it is where the path is named
  pub named_times : (times : List ℕ) → ((held : List ℕ) → IsHeld (files path) held → AreTimesOf dag intervals held times)
      → (journal : Option (List ℕ)) → IsHeldIfNamed files (Some path) journal → AreTimesTold dag intervals journal times
  named_times times are None told = absurd told
  named_times times are (Some held) told = are held told

  pub unnamed_times : (times : List ℕ) → times ≡ [] → (journal : Option (List ℕ)) → IsHeldIfNamed files None journal → AreTimesTold dag intervals journal times
  unnamed_times times is None told = is
  unnamed_times times is (Some held) told = absurd told

  told_fault : (fault : JournalFault) → ((held : List ℕ) → IsHeld (files path) held → IsTimesFault dag intervals held fault)
      → (journal : Option (List ℕ)) → IsHeldIfNamed files (Some path) journal → IsJournalFault dag intervals journal (Journal fault)
  told_fault fault is None told = absurd told
  told_fault fault is (Some held) told = is held told

  pub named_fault : (fault : CommandFault) → IsJournalFaultAt files path dag intervals fault → IsNamedJournalFault files (Some path) dag intervals fault
  named_fault OutOfMemory is = tt
  named_fault (CannotRead p) is = is
  named_fault (Journal fault) is = (All-cons (λ p. IsReadable (files p)) path [] is.0 (All-nil (λ p. IsReadable (files p))), told_fault fault is.1)
  named_fault other is = absurd is
