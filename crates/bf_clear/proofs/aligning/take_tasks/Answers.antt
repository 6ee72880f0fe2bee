use Rattle.std.proofs.Common.{◌≡◌, Some, refl, sym, ap, ◌∙◌}
use Rattle.std.specs.List.{position}
use Rattle.std.proofs.lemmas.List.Quantifiers.{position-Some}
use Rattle.bf_report.specs.declared.report.RunReport.{RunReport}
use Rattle.bf_clear.specs.Aligning.{is_over}
use Rattle.bf_clear.proofs.Aligned.{told_else, told_there, untold}
use Rattle.bf_clear.proofs.aligning.take_tasks.Goals as goal

pub returns-in-Some-clause-told : goal.returns-in-Some-clause-told
returns-in-Some-clause-told c =
    let runs = c.args.runs.now.items in
    let at : position (is_over c.args.interval.now) runs ≡ Some c.in-Some.place = ap (position (is_over c.args.interval.now)) (sym c.as_slice.ensures.value) ∙ sym c.in-Some.ensures in
    let found = position-Some (is_over c.args.interval.now) runs c.in-Some.place c.index_mut.result.now at in
    c.replace.ensures.value ∙ (ap (λ (run : RunReport). run.tasks) c.index_mut.ensures.value ∙ sym (told_there runs c.args.interval.now c.in-Some.place c.index_mut.result.now at found.0))

pub returns-in-Some-clause-others : goal.returns-in-Some-clause-others
returns-in-Some-clause-others c =
    let runs = c.args.runs.now.items in
    let at : position (is_over c.args.interval.now) runs ≡ Some c.in-Some.place = ap (position (is_over c.args.interval.now)) (sym c.as_slice.ensures.value) ∙ sym c.in-Some.ensures in
    let found = position-Some (is_over c.args.interval.now) runs c.in-Some.place c.index_mut.result.now at in
    told_else runs c.args.interval.now c.in-Some.place c.index_mut.result.now _ c.index_mut.ensures.value (ap (is_over c.args.interval.now) c.index_mut.ensures.value ∙ found.1) refl

pub returns-in-None-clause-told : goal.returns-in-None-clause-told
returns-in-None-clause-told c =
    c.new-in-None.ensures ∙ sym (untold c.args.runs.now.items c.args.interval.now (ap (position (is_over c.args.interval.now)) (sym c.as_slice.ensures.value) ∙ (sym c.place_over.ensures ∙ c.in-None.is)))
