use Rattle.std.proofs.Common.{◌∙◌, ap}
use Rattle.std.proofs.lemmas.Result.{on_ok_weaker, on_err_weaker}
use Rattle.bf_report_reader.specs.inner.Beginning.{with_told}
use Rattle.bf_report_reader.specs.inner.Lasts.{at_last}
use Rattle.bf_report_reader.proofs.PartingFacts.{set_last, same_last}
use Rattle.bf_report_reader.proofs.open.add_part_to_last_instance.Goals as goal

pub returns-clause-ok : goal.returns-clause-ok
returns-clause-ok c =
    let held = c.instances.inside.items in
    on_ok_weaker c.add_part_to_instance.result
    (λ told. set_last held.items held.len c.in-Some.instance.now c.add_part_to_instance.new.instance (λ x. with_told x c.args.part) held.ok.0 c.in-Some.ensures.value told ∙ ap (at_last (λ x. with_told x c.args.part)) c.instances.view_is)
    c.add_part_to_instance.ensures.ok

pub returns-clause-err : goal.returns-clause-err
returns-clause-err c =
    let held = c.instances.inside.items in
    on_err_weaker c.add_part_to_instance.result
    (λ kept. same_last held.items held.len c.in-Some.instance.now c.add_part_to_instance.new.instance held.ok.0 c.in-Some.ensures.value kept ∙ c.instances.view_is)
    c.add_part_to_instance.ensures.err
