use Rattle.std.proofs.Common.{◌∙◌, ap}
use Rattle.std.proofs.lemmas.Result.{on_ok_weaker, on_err_weaker}
use Rattle.bf_report_reader.specs.inner.Lasts.{at_last, told_task}
use Rattle.bf_report_reader.proofs.PartingFacts.{set_last, same_last}
use Rattle.bf_report_reader.proofs.open.add_part_to_last_task.Goals as goal

pub returns-clause-ok : goal.returns-clause-ok
returns-clause-ok c =
    let held = c.tasks.inside.items in
    on_ok_weaker c.add_part_to_task.result
    (λ changed. set_last held.items held.len c.in-Some.task.now c.add_part_to_task.new.task (told_task c.args.part) held.ok.0 c.in-Some.ensures.value changed ∙ ap (at_last (told_task c.args.part)) c.tasks.view_is)
    c.add_part_to_task.ensures.ok

pub returns-clause-err : goal.returns-clause-err
returns-clause-err c =
    let held = c.tasks.inside.items in
    on_err_weaker c.add_part_to_task.result
    (λ kept. same_last held.items held.len c.in-Some.task.now c.add_part_to_task.new.task held.ok.0 c.in-Some.ensures.value kept ∙ c.tasks.view_is)
    c.add_part_to_task.ensures.err
