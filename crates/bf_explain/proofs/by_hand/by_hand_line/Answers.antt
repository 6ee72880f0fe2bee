use Rattle.std.proofs.Common.{rules, SFits, w32, to_z, of_z, ap, ◌∙◌}
use Rattle.std.proofs.lemmas.Int.{to_z-of_z}
use Rattle.std.proofs.lemmas.Result.{IfOk-weaker}
use Rattle.bf_core.specs.Terms.{task_of}
use Rattle.bf_words.specs.Words.{words_of}
use Rattle.bf_words.specs.declared.context.JobContext.{JobContext}
use Rattle.bf_explain.specs.Variables.{hand_line_of}
use Rattle.bf_explain.proofs.by_hand.by_hand_line.Goals as goal

pub returns : goal.returns
returns c =
    let fits : SFits w32 c.args.index = search rules in
    let dag_is = c.dag-dag.ensures.dag in
    let made_is = c.task-made.ensures ∙ ap (λ d. task_of d c.args.task) dag_is in
    let context : JobContext = record { data_interval_start = c.new.result; data_interval_end = c.new-2.result; dag_id = c.as_str.result; task_id = c.as_str-2.result; map_index = to_z w32 (of_z w32 c.args.index); try_number = c.in_ok-ended.ended.tries } in
    let words = c.as_slice-2.ensures.value ∙ c.in_ok-words-2.ensures ∙ c.in_ok-words.ensures ∙ (λ i. words_of context (c.in_ok-given.ensures i) ((c.as_slice.ensures ∙ ap (λ t. t.command) made_is) i)) in
    let lent = c.clock_of_run-clock.ensures in
    IfOk-weaker c.hand_line.result _ _
    (λ line is. (
      context,
      record {
        starts = c.new.ensures;
        ends = c.new-2.ensures;
        dag_id = c.as_str.ensures ∙ ap (λ d. d.id) dag_is;
        task_id = c.as_str-2.ensures ∙ ap (λ t. t.id) made_is;
        map_index = to_z-of_z w32 c.args.index fits;
        try_number = ap (λ r. r.tries) c.in_ok-ended.ensures;
      },
      is ∙ (λ i. hand_line_of context (lent i) (words i)),
    )) c.hand_line.ensures
