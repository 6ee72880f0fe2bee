use Rattle.std.proofs.Common.{◌∙◌, sym, ap}
use Rattle.bf_report_reader.specs.Parting.{open_by}
use Rattle.bf_report_reader.specs.Beginning.{is_given_task}
use Rattle.bf_report_reader.specs.inner.Beginning.{takes_at, takes_task}
use Rattle.bf_report_reader.proofs.PartingFacts.{found_last, mapped_takes}
use Rattle.bf_report_reader.proofs.open.task_may_take.Goals as goal

pub returns-in-Some : goal.returns-in-Some
returns-in-Some c =
    let xs = c.in-Mapped.instances in
    let x = c.in-Some.instance in
    let part = c.args.part.now in
    c.instance_may_take-in-Some.ensures
    ∙ ap (λ given. takes_at c.args.version given x.now part) (c.has_needed_item-is_given.ensures ∙ ap (λ t. is_given_task c.args.version (open_by t)) c.in-Mapped.is)
    ∙ sym (mapped_takes c.args.version xs x.now part (found_last c.last.result c.as_slice.result.now xs x c.as_slice.ensures c.last.ensures.value c.in-Some.is))
    ∙ ap (λ t. takes_task c.args.version (open_by t) part) (sym c.in-Mapped.is)
