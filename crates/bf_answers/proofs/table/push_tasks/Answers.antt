use Rattle.std.proofs.Common.{ap, inl, inr}
use Rattle.bf_report.proofs.ReportFacts.{all_came}
use Rattle.bf_answers.specs.TableText.{entry_lines}
use Rattle.bf_answers.proofs.Texts.{no_ids, no_tasks}
use Rattle.bf_answers.proofs.table.push_tasks.Goals as goal

pub returns : goal.returns
returns c =
    let run = c.args.run.now in
    let ids = c.loop-id.id-iterator.a.rest.now in
    let tasks = c.loop-id.id-iterator.b.rest.now in
    all_came _ _ _ c.loop-id.invariant (elim c.in-None.ensures.steps [ inl w ↦ ap entry_lines (no_ids run ids tasks w.1.0) | inr w ↦ ap entry_lines (no_tasks run ids tasks w.1.0) ])
