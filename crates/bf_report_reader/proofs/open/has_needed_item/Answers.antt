use Rattle.std.proofs.Common.{◌∙◌, sym, ap₂}
use Rattle.bf_report_reader.specs.Parting.{open_by}
use Rattle.bf_report_reader.specs.Beginning.{is_given_task}
use Rattle.bf_report_reader.proofs.PartingFacts.{found_last, item_told, mapped_given}
use Rattle.bf_report_reader.proofs.open.has_needed_item.Goals as goal

pub returns-in-Some : goal.returns-in-Some
returns-in-Some c =
    let xs = c.in-Two-Mapped.instances in
    let x = c.in-Some.instance in
    c.is_some.ensures ∙ item_told c.item.result x.now.item c.item.ensures
    ∙ sym (mapped_given xs x.now (found_last c.last.result c.as_slice.result.now xs x c.as_slice.ensures c.last.ensures.value c.in-Some.is))
    ∙ ap₂ (λ v t. is_given_task v (open_by t)) (sym c.in-Two-Mapped.is-0) (sym c.in-Two-Mapped.is-1)
