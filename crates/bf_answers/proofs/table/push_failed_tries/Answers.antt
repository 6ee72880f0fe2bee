use Rattle.std.proofs.Common.{◌++◌, ℕ, [], string_bytes, ap, ◌∙◌, arith}
use Rattle.bf_table.specs.declared.table.TableEntry.{TableEntry}
use Rattle.bf_answers.specs.Answers.{entry_at}
use Rattle.bf_answers.specs.inner.Answers.{number_of}
use Rattle.bf_answers.specs.TableText.{entry_line}
use Rattle.bf_answers.proofs.Texts.{try_more}
use Rattle.bf_answers.proofs.table.push_failed_tries.Goals as goal

pub loop-attempt-preserved : goal.loop-attempt-preserved
loop-attempt-preserved c =
    let name = c.args.name.now in
    let attempt = c.loop-attempt.attempt in
    let f : ℕ → TableEntry = λ n. entry_at name.run.now name.task.now (number_of name.index) n 1 [] in
    let from_one = c.loop-attempt.invariant.from_one in
    let low = c.loop-attempt-test.true in
    record {
      from_one = omega (arith, from_one);
      no_more = omega (arith, low, from_one);
      added = c.in_ok-push_failed_entry.ensures ∙ ap (λ t. t ++ entry_line (f attempt)) c.loop-attempt.invariant.added ∙ try_more (string_bytes c.args.text.now) f attempt from_one;
    }
