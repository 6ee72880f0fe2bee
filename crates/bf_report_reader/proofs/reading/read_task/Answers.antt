use Rattle.bf_report_reader.proofs.Lines.{entry_step}
use Rattle.bf_report_reader.proofs.reading.read_task.Goals as goal

pub returns-in_ok-add_entry-in-Some : goal.returns-in_ok-add_entry-in-Some
returns-in_ok-add_entry-in-Some c =
    let says = rw c.in-Some.is at c.in_ok-entry.ensures.some in
    rw c.taken_or_refused.ensures (entry_step c.args.beginning.now c.add_entry.new.self c.args.id.now c.args.text.now c.in-Some.entry c.in_ok-add_entry-in-Some.field-0 c.requires says.0 says.1 c.in_ok-add_entry-in-Some.ensures.added)
