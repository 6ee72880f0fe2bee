use Rattle.std.proofs.Common.{◌++◌, ℕ, List, pos, string_bytes, ap, ◌∙◌}
use Rattle.bf_report.specs.declared.report.InstanceReport.{InstanceReport}
use Rattle.bf_table.specs.declared.table.TableEntry.{TableEntry}
use Rattle.bf_answers.specs.Answers.{instance_entries}
use Rattle.bf_answers.specs.TableText.{entry_lines}
use Rattle.bf_answers.proofs.Texts.{numbered_more}
use Rattle.bf_answers.proofs.table.push_mapped.Goals as goal

pub loop-index-preserved : goal.loop-index-preserved
loop-index-preserved c =
    let index = c.loop-index.index in
    let instance = c.index-instances-index.result in
    let f : ℕ × InstanceReport → List TableEntry = λ pair. instance_entries c.args.run.now c.args.task.now (pos pair.0) pair.1.result in
    c.in_ok-push_instance.ensures ∙ ap (λ t. t ++ entry_lines (f (index, instance))) c.loop-index.invariant
    ∙ numbered_more (string_bytes c.args.text.now) f c.args.instances.now index instance c.loop-index-test.true c.index-instances-index.is
