use Rattle.std.proofs.Common.{◌++◌, ◌∷◌, ℕ, List, Some, true≢false, ap, sym, subst, ◌∙◌}
use Rattle.std.specs.Str.{IsUtf8}
use Rattle.bf_plan.specs.Ids.{is_id_in}
use Rattle.bf_plan.proofs.ListLemmas.{some_same}
use Rattle.bf_report.specs.Report.{pulled_word}
use Rattle.bf_report_reader.specs.Parts.{IsToldPulled}
use Rattle.bf_report_reader.specs.inner.Reads.{Spells}
use Rattle.bf_report_reader.proofs.Words.{id_utf8}
use Rattle.bf_report_reader.proofs.Spelled.{pull_fields}
use Rattle.bf_report_reader.proofs.part.pull_in.Goals as goal

pub returns-in_default-from_utf8-clause-every : goal.returns-in_default-from_utf8-clause-every
returns-in_default-from_utf8-clause-every c = λ p says.
    let (task, value) = pull_fields p c.args.text.now c.in-Some.id.now c.in-Some.value.now c.in-Some.ensures.word c.in-Some.ensures.some says in
    absurd (c.in_default-from_utf8.ensures.cases.0 (subst IsUtf8 (sym task) (id_utf8 p.task says.0.0)))

pub returns-then-not-is_id-clause-every : goal.returns-then-not-is_id-clause-every
returns-then-not-is_id-clause-every c = λ p says.
    let (task, value) = pull_fields p c.args.text.now c.in-Some.id.now c.in-Some.value.now c.in-Some.ensures.word c.in-Some.ensures.some says in
    absurd (true≢false (sym says.0.0 ∙ ap is_id_in (sym (c.in-Ok.ensures.cases.0 ∙ task)) ∙ sym c.is_id.ensures ∙ c.if-not-is_id.true))

pub returns-in_ok-new-in-Some-2-clause-every : goal.returns-in_ok-new-in-Some-2-clause-every
returns-in_ok-new-in-Some-2-clause-every c = λ p says.
    let (task, value) = pull_fields p c.args.text.now c.in-Some.id.now c.in-Some.value.now c.in-Some.ensures.word c.in-Some.ensures.some says in
    let tasks = c.in_ok-copy_of-in-Some-2.ensures ∙ c.in-Ok.ensures.cases.0 ∙ task in
    let values = c.in_ok-new-in-Some-2.ensures ∙ some_same (sym c.in-Some-2.is ∙ c.in_ok-value.ensures.every p.value (says.0.1, value)) in
    λ k. Some (record { task = tasks k; value = values k })

pub returns-in-None-clause-every : goal.returns-in-None-clause-every
returns-in-None-clause-every c = λ p says.
    let (task, value) = pull_fields p c.args.text.now c.in-Some.id.now c.in-Some.value.now c.in-Some.ensures.word c.in-Some.ensures.some says in
    let none = sym c.in-None.is ∙ c.in_ok-value.ensures.every p.value (says.0.1, value) in absurd (cc none)

pub returns-in_ok-new-in-Some-2-clause-some : goal.returns-in_ok-new-in-Some-2-clause-some
returns-in_ok-new-in-Some-2-clause-some c =
    let read : Spells IsToldPulled pulled_word c.in-Some.value.now c.in-Some-2.value = rw c.in-Some-2.is at c.in_ok-value.ensures.some in
    let told = subst (Spells IsToldPulled pulled_word c.in-Some.value.now) (sym c.in_ok-new-in-Some-2.ensures) read in
    let task = c.in_ok-copy_of-in-Some-2.ensures ∙ c.in-Ok.ensures.cases.0 in (
      (ap is_id_in c.in_ok-copy_of-in-Some-2.ensures ∙ sym c.is_id.ensures ∙ c.if-not-is_id.false, told.0),
      c.in-Some.ensures.some ∙ ap (λ (id : List ℕ). id ++ 32 ∷ c.in-Some.value.now) (sym task) ∙ ap (λ (word : List ℕ). c.in_ok-copy_of-in-Some-2.field-0 ++ 32 ∷ word) told.1,
    )
