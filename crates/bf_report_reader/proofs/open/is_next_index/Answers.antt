use Rattle.std.proofs.Common.{◌==◌, ◌∙◌, sym, ap}
use Rattle.bf_report_reader.specs.Parting.{open_by}
use Rattle.bf_report_reader.specs.Beginning.{is_further_task}
use Rattle.bf_report_reader.proofs.PartingFacts.{mapped_next}
use Rattle.bf_report_reader.proofs.open.is_next_index.Goals as goal

pub returns-then-index-gt0 : goal.returns-then-index-gt0
returns-then-index-gt0 c =
    ap (λ n. n == c.args.index) c.len.ensures ∙ mapped_next c.in-Mapped.instances c.args.index c.if-index-gt0.true
    ∙ ap (λ t. is_further_task (open_by t) c.args.index) (sym c.in-Mapped.is)
