use Rattle.std.proofs.Common.{◌∙◌}
use Rattle.bf_report_reader.proofs.Lines.{run_step, no_run}
use Rattle.bf_report_reader.proofs.reading.read_run.Goals as goal

pub returns-in_default : goal.returns-in_default
returns-in_default c = no_run c.args.beginning.now c.args.text.now c.requires.ruled
    (λ run other bare good is added. let none = c.in_default.ensures.every (run.interval, run.state) (good, is) in absurd (cc none))

pub returns : goal.returns
returns c = rw c.taken_or_refused.ensures (run_step c.args.beginning.now c.add_run.new.self c.args.text.now _ c.in_ok-add_run.field-0 (c.from_vec.ensures ∙ c.in_ok-with_capacity.ensures.items) c.in-Some.ensures.some.0 c.requires c.in-Some.ensures.some.1 c.in_ok-add_run.ensures.added)
