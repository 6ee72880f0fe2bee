-- What a command leaves in its journal.
use Rattle.std.proofs.Common.{◌<◌, ℕ, Bool, List, [], ◌∷◌, length, Option, subst, length-append, arith}
use Rattle.bf_value.specs.declared.name.JobName.{JobName}
use Rattle.bf_value.specs.Json.{json_of}
use Rattle.bf_plan.specs.declared.plan.Dag.{Dag}
use Rattle.bf_interval.specs.declared.interval.Interval.{Interval}
use Rattle.bf_xcom.specs.declared.values.Given.{Given}
use Rattle.bf_try.specs.declared.answers.Raw.{Raw}
use Rattle.bf_try.specs.Tries.{Ledger}
use Rattle.bf_journal.specs.Heads.{head_text, head_value}
use Rattle.bf_journal.specs.Left.{IsLeftPart, IsMadeWhole, KeepsJournal}
use Rattle.bf_journal.specs.Recording.{IsRecordBy, IsWritten}
use Rattle.bf_journal.proofs.Left.{made_left, part_left}
use Rattle.bf_commands.specs.Journaled.{Heading}

module _ (may_answer : JobName → Given → Raw → Type 0) (dag : Dag) (intervals : List Interval) where
  -- where no try is begun
  pub kept_in_part : (head held : List ℕ) (old new : Option (List ℕ)) → IsLeftPart head held old new → KeepsJournal may_answer dag intervals head held old new
  kept_in_part head held old new part told is =
      let (left, stands, is_part) = part told in
      (left, stands, part_left may_answer dag intervals head held left is_part is)

  some_head : (cleared : Heading) → 0 < length (head_text dag intervals cleared)
  unfolding head_text
  some_head cleared =
      let long = length-append (json_of (head_value dag intervals cleared)) (10 ∷ []) in
      omega (arith, long)

  -- where tries are recorded
  pub kept_over : (cleared : Heading) (held : List ℕ) (tries : Ledger) (old begun new : Option (List ℕ)) (failed : Bool)
      → IsMadeWhole dag intervals (head_text dag intervals cleared) held tries old begun → IsWritten (IsRecordBy may_answer dag intervals) begun new failed
      → KeepsJournal may_answer dag intervals (head_text dag intervals cleared) held old new
  kept_over cleared held tries old begun new failed made written told is =
      made_left may_answer dag intervals (head_text dag intervals cleared) (some_head cleared) held made.whole tries new failed made.found is
      (subst (λ (o : Option (List ℕ)). IsWritten (IsRecordBy may_answer dag intervals) o new failed) (made.is told) written)
