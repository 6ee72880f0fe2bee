-- What a command leaves in a journal.
use Rattle.std.proofs.Common.{◌≡◌, ◌⊎◌, ◌∙◌, ◌+◌, ◌-◌, ◌<◌, ◌≤◌, ℕ, zero, suc, Bool, nat_lt, List, [], ◌∷◌, ◌++◌, length, take, drop, Option, Some, refl, sym, ap, subst, append_assoc, append-nil, inl, inr, arith}
use Rattle.std.proofs.lemmas.Bool.{cases_Bool}
use Rattle.std.proofs.lemmas.Bool.Decides.{nat_tests}
use Rattle.std.proofs.lemmas.List.{append_cancel_left, take-append-drop, take-append-le, take_all}
use Rattle.bf_value.specs.declared.name.JobName.{JobName}
use Rattle.bf_plan.specs.declared.plan.Dag.{Dag}
use Rattle.bf_interval.specs.declared.interval.Interval.{Interval}
use Rattle.bf_xcom.specs.declared.values.Given.{Given}
use Rattle.bf_try.specs.declared.answers.Raw.{Raw}
use Rattle.bf_try.specs.Tries.{Ledger}
use Rattle.bf_journal.specs.Cuts.{IsCutJournal}
use Rattle.bf_journal.specs.Left.{IsFoundIn, IsLeftByCrashes, IsPart, made_whole}
use Rattle.bf_journal.specs.Lines.{text_of_lines, whole_lines}
use Rattle.bf_journal.specs.Recording.{IsRecordBy, IsWritten, text_of_all}
use Rattle.bf_journal.proofs.Crashes.{begun, cut_again, gone_on}
use Rattle.bf_journal.proofs.Going.{take_past}

-- of two texts that are none together the first is none
first_none : (one other : List ℕ) → one ++ other ≡ [] → one ≡ []
first_none [] other is = refl
first_none (x ∷ xs) other is = absurd (cc)

module _ (may_answer : JobName → Given → Raw → Type 0) (dag : Dag) (intervals : List Interval) (head : List ℕ) where
  abbrev IsLeft : List ℕ → Type 0
  IsLeft held = IsLeftByCrashes may_answer dag intervals head held

  -- behind a whole head stands what crashes leave there
  pub behind_head : (held records : List ℕ) → held ≡ head ++ records → IsLeft held → IsCutJournal may_answer dag intervals records
  behind_head held records is (inl (rest, cut)) =
      let whole : head ++ (records ++ rest) ≡ head ++ [] = sym (append_assoc head records rest) ∙ (ap (λ (l : List ℕ). l ++ rest) (sym is) ∙ (sym cut ∙ sym (append-nil head))) in
      subst (IsCutJournal may_answer dag intervals) (sym (first_none records rest (append_cancel_left head (records ++ rest) [] whole))) (begun may_answer dag intervals)
  behind_head held records is (inr (bytes, at, journal)) =
      subst (IsCutJournal may_answer dag intervals) (append_cancel_left head bytes records (sym at ∙ is)) journal

  -- ---- beginnings

  of_head : (n : ℕ) → IsLeft (take n head)
  of_head n = inl (drop n head, sym (take-append-drop n head))

  pub beginning : (n : ℕ) (held : List ℕ) → IsLeft held → IsLeft (take n held)
  beginning n held (inl (rest, cut)) =
      inl (drop n held ++ rest, cut ∙ ap (λ (l : List ℕ). l ++ rest) (sym (take-append-drop n held)) ∙ append_assoc (take n held) (drop n held) rest)
  beginning n held (inr (bytes, at, journal)) = elim (cases_Bool (nat_lt n (length head))) as (λ _. IsLeft (take n held)) [
    | inl less ↦ subst IsLeft (sym (ap (take n) at ∙ take-append-le n head bytes (grind (arith, nat_tests, less)))) (of_head n)
    | inr more ↦ inr (beyond n bytes held at journal (grind (arith, nat_tests, more)))
  ]
    where
      beyond : (n : ℕ) (bytes held : List ℕ) → held ≡ head ++ bytes → IsCutJournal may_answer dag intervals bytes → length head ≤ n
          → (more : List ℕ) × (take n held ≡ head ++ more) × IsCutJournal may_answer dag intervals more
      beyond n bytes held at journal long =
          let m = n - length head in
          let same : n ≡ length head + m = omega (arith, long) in
          (take m bytes, ap (take n) at ∙ ap (λ k. take k (head ++ bytes)) same ∙ take_past head bytes m, cut_again may_answer dag intervals bytes m journal)

  pub part_left : (held left : List ℕ) → IsPart head held left → IsLeft held → IsLeft left
  part_left held left part is = go part.is
    where
      go : (left ≡ take part.count held) ⊎ (left ≡ take part.count head) → IsLeft left
      go (inl same) = subst IsLeft (sym same) (beginning part.count held is)
      go (inr same) = subst IsLeft (sym same) (of_head part.count)

  -- ---- gone on with

  -- behind whole lines records were written
  went_on : (bytes : List ℕ) (new : Option (List ℕ)) (failed : Bool) → IsCutJournal may_answer dag intervals bytes
      → IsWritten (IsRecordBy may_answer dag intervals) (Some (take (length head + length (text_of_lines (whole_lines bytes))) (head ++ bytes))) new failed
      → (left : List ℕ) × (new ≡ Some left) × IsLeft left
  went_on bytes new failed journal is =
      let m = length (text_of_lines (whole_lines bytes)) in
      let more = take is.count (text_of_all is.records) in
      let written = take m bytes ++ more in
      let stands : new ≡ Some (head ++ written) =
      is.first ∙ ap (λ (l : List ℕ). Some (l ++ more)) (take_past head bytes m) ∙ ap Some (append_assoc head (take m bytes) more) in
      let done : IsWritten (IsRecordBy may_answer dag intervals) (Some (take (length head + m) (head ++ bytes))) (Some (head ++ written)) failed =
      subst (λ (o : Option (List ℕ)). IsWritten (IsRecordBy may_answer dag intervals) (Some (take (length head + m) (head ++ bytes))) o failed) stands is in
      (head ++ written, stands, inr (written, refl, gone_on may_answer dag intervals head bytes written failed journal done))

  pub made_left : 0 < length head → (held : List ℕ) (whole : ℕ) (tries : Ledger) (new : Option (List ℕ)) (failed : Bool) → IsFoundIn dag intervals head held whole tries → IsLeft held
      → IsWritten (IsRecordBy may_answer dag intervals) (Some (made_whole head held whole)) new failed
      → (left : List ℕ) × (new ≡ Some left) × IsLeft left
  made_left some held whole tries new failed (inl cut) is done =
      let none : made_whole head held whole ≡ head = ap (made_whole head held) cut.nothing_whole in
      let same : made_whole head held whole ≡ take (length head + 0) (head ++ []) = none ∙ sym (take_all (length head + 0) (head ++ []) (omega (arith, ap length (append-nil head))) ∙ append-nil head) in
      went_on [] new failed (begun may_answer dag intervals)
      (subst (λ (l : List ℕ). IsWritten (IsRecordBy may_answer dag intervals) (Some l) new failed) same done)
  made_left some held whole tries new failed (inr on) is done =
      let m = length (text_of_lines (whole_lines on.records)) in
      let same : made_whole head held whole ≡ take (length head + m) (head ++ on.records) = taken whole (omega (arith, some, on.whole_is)) ∙ ap (λ k. take k held) on.whole_is ∙ ap (take (length head + m)) on.are in
      went_on on.records new failed (behind_head held on.records on.are is)
      (subst (λ (l : List ℕ). IsWritten (IsRecordBy may_answer dag intervals) (Some l) new failed) same done)
    where
      taken : (n : ℕ) → 0 < n → made_whole head held n ≡ take n held
      taken zero more = absurd (omega (arith, more))
      taken (suc n) more = refl
