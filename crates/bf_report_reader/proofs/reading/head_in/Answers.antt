use Rattle.std.proofs.Common.{◌≡◌, ◌∷◌, ◌++◌, true≢false, drop, ap, sym, subst, refl, ◌∙◌}
use Rattle.std.specs.Str.{IsUtf8}
use Rattle.bf_plan.specs.Ids.{is_id_in}
use Rattle.bf_report.specs.Report.{version_word_of}
use Rattle.bf_report_reader.proofs.Words.{id_utf8, version_plain}
use Rattle.bf_report_reader.proofs.Splits.{none_stands, cut_once}
use Rattle.bf_report_reader.proofs.reading.head_in.Goals as goal
use Rattle.bf_report_reader.proofs.reading.head_in.Goals.{in_default-from_utf8-via-in-Ok+else-is_id, in_default-from_utf8-via-in_default-from_utf8}

pub returns-in_default-clause-every : goal.returns-in_default-clause-every
returns-in_default-clause-every c = λ head says. absurd ((rw c.as_slice.ensures at c.in_default.ensures.none) refl _ says.1)

pub returns-in_default-split_field-clause-every : goal.returns-in_default-split_field-clause-every
returns-in_default-split_field-clause-every c = λ head says.
    let rest : c.in-Some.rest.now ≡ version_word_of head.0 ++ 32 ∷ head.1 = ap (drop 10) (sym (rw c.as_slice.ensures at c.in-Some.ensures.some) ∙ says.1) in
    absurd (none_stands 32 c.in-Some.rest.now (version_word_of head.0) head.1 c.in_default-split_field.ensures.none rest)

pub returns-in_default-version_in-clause-every : goal.returns-in_default-version_in-clause-every
returns-in_default-version_in-clause-every c = λ head says.
    let rest : c.in-Some.rest.now ≡ version_word_of head.0 ++ 32 ∷ head.1 = ap (drop 10) (sym (rw c.as_slice.ensures at c.in-Some.ensures.some) ∙ says.1) in
    let (version, id) = cut_once 32 c.in-Some-split_field.version.now (version_word_of head.0) c.in-Some-split_field.id.now head.1 c.in-Some-split_field.ensures.word (version_plain head.0) (sym c.in-Some-split_field.ensures.some ∙ rest) in
    let none = c.in_default-version_in.ensures.every head.0 version in absurd (cc none)

pub returns-in_default-from_utf8-clause-every : goal.returns-in_default-from_utf8-clause-every
returns-in_default-from_utf8-clause-every c = λ head says.
    let rest : c.in-Some.rest.now ≡ version_word_of head.0 ++ 32 ∷ head.1 = ap (drop 10) (sym (rw c.as_slice.ensures at c.in-Some.ensures.some) ∙ says.1) in
    let (version, same) = cut_once 32 c.in-Some-split_field.version.now (version_word_of head.0) c.in-Some-split_field.id.now head.1 c.in-Some-split_field.ensures.word (version_plain head.0) (sym c.in-Some-split_field.ensures.some ∙ rest) in
    elim c.in_default-from_utf8.branch [
      | in_default-from_utf8-via-in-Ok+else-is_id w ↦
          absurd (true≢false (sym says.0 ∙ ap is_id_in (sym (w.in-Ok.ensures.cases.0 ∙ same)) ∙ sym w.is_id.ensures ∙ w.if-is_id.false))
      | in_default-from_utf8-via-in_default-from_utf8 w ↦ absurd (w.in_default-from_utf8.ensures.cases.0 (subst IsUtf8 (sym same) (id_utf8 head.1 says.0)))
    ]
