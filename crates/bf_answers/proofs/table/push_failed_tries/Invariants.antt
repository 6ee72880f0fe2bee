use Rattle.std.proofs.Common.{◌≡◌, ◌++◌, ◌-◌, ◌≤◌, string_bytes}
use Rattle.bf_answers.specs.Answers.{retried_entries}
use Rattle.bf_answers.specs.inner.Answers.{number_of}
use Rattle.bf_answers.specs.TableText.{entry_lines}
use Rattle.bf_answers.proofs.table.push_failed_tries.Given as goal

abbrev pub invariant-loop-attempt : goal.invariant-loop-attempt
invariant-loop-attempt l = record {
  from_one : 1 ≤ l.attempt;
  no_more : l.attempt - 1 ≤ l.tries - 1;
  added : string_bytes l.text ≡ string_bytes l.fn.text ++ entry_lines (retried_entries l.name.run.now l.name.task.now (number_of l.name.index) l.attempt);
}
