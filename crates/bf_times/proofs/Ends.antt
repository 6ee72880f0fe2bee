-- What reading the times of a journal comes to.
use Rattle.std.proofs.Common.{◌≡◌, ◌≤◌, ◌<◌, ◌+◌, ◌-◌, ◌==◌, ◌∙◌, ℕ, nat_lt, List, [], ◌++◌, append_assoc, length, take, drop, max, position, Option, Some, None, Result, Ok, Err, IfErr, IsErrAnd, option_map, sym, ap, subst, inl, inr, arith}
use Rattle.std.proofs.lemmas.Bool.{and_parts, cases_Bool}
use Rattle.std.proofs.lemmas.Slice.Eq.{bytes_eq-Decides}
use Rattle.std.proofs.lemmas.Bool.Decides.{nat_tests}
use Rattle.std.proofs.lemmas.List.{take-append-drop}
use Rattle.bf_plan.specs.declared.plan.Dag.{Dag}
use Rattle.bf_plan.proofs.ListLemmas.{some_same}
use Rattle.bf_interval.specs.declared.interval.Interval.{Interval}
use Rattle.bf_try.specs.Tries.{Ledger}
use Rattle.bf_journal.specs.declared.fault.JournalFault.{JournalFault}
use Rattle.bf_journal.specs.declared.fault.JournalFault.TheVariants.{BadRecord, Mismatch, OutOfMemory}
use Rattle.bf_journal.specs.Found.{IsCutHead, IsFault, IsGoneOnWith}
use Rattle.bf_journal.specs.Left.{IsFoundIn}
use Rattle.bf_journal.specs.Heads.{head_text}
use Rattle.bf_times.specs.Times.{HasHead, IsTimesFault, front_in}

-- the bytes begin with their first line
begins : (bytes head : List ℕ) (at : Option ℕ) → option_map (λ n. take (n + 1) bytes) at ≡ Some head → (rest : List ℕ) × (bytes ≡ head ++ rest)
begins bytes head None is = absurd (cc is)
begins bytes head (Some n) is = (drop (n + 1) bytes, sym (take-append-drop (n + 1) bytes) ∙ ap (λ front. front ++ drop (n + 1) bytes) (some_same is))

module _ (dag : Dag) (intervals : List Interval) (bytes head : List ℕ) where
  -- what begins with such a head begins as each does
  pub front_first : HasHead dag intervals bytes head → (rest : List ℕ) × (bytes ≡ front_in (head_text dag intervals []) ++ rest)
  front_first has =
      let (rest, are) = begins bytes head (position (λ b. b == 10) bytes) has.is_first in
      let front = length (head_text dag intervals []) - 2 in
      let like = and_parts _ _ (and_parts _ _ has.is_own).1 in
      let same : take front head ≡ take front (head_text dag intervals []) = (bytes_eq-Decides _ _).0 like.0 in (
        drop front head ++ rest,
        are ∙ ap (λ h. h ++ rest) (sym (take-append-drop front head) ∙ ap (λ f. f ++ drop front head) same) ∙ append_assoc _ (drop front head) rest,
      )

  fault_of : HasHead dag intervals bytes head → (fault : JournalFault) → IsFault dag intervals head bytes fault → IsTimesFault dag intervals bytes fault
  fault_of has (BadRecord number) is = (head, has, is)
  fault_of has Mismatch is = let (rest, are) = begins bytes head (position (λ b. b == 10) bytes) has.is_first in absurd (is.not_gone_on rest are)
  fault_of has OutOfMemory is = tt

  -- a fault that is passed up
  pub passed_up : {A : Type 0} → HasHead dag intervals bytes head → (r : Result A JournalFault) (fault : JournalFault) → IsErrAnd r (λ f. f ≡ fault) → IsFault dag intervals head bytes fault
      → IfErr r (IsTimesFault dag intervals bytes)
  passed_up has (Ok x) fault up is = tt
  passed_up has (Err f) fault up is = subst (IsTimesFault dag intervals bytes) (sym up) (fault_of has fault is)

  -- nothing is whole, or the whole lines behind the head tell tries
  pub is_found : (whole : ℕ) (tries : Ledger) → (whole < length head → IsCutHead head bytes whole tries) → (length head ≤ whole → IsGoneOnWith dag intervals head bytes whole tries) → IsFoundIn dag intervals head bytes whole tries
  is_found whole tries begun gone_on = elim (cases_Bool (nat_lt whole (length head))) as (λ _. IsFoundIn dag intervals head bytes whole tries) [
    | inl low ↦ inl (begun (grind (arith, nat_tests, low)))
    | inr high ↦ inr (gone_on (grind (arith, nat_tests, high)))
  ]

pub beyond : (whole front : ℕ) → max whole front - front ≡ whole - front
beyond whole front = omega arith
