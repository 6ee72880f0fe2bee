use Rattle.std.proofs.Common.{◌++◌, ◌∷◌, [], map, sym, ap, ◌∙◌, append_assoc, string_bytes}
use Rattle.bf_core.specs.Terms.{TaskResult}
use Rattle.bf_reason.specs.Letters.{ended_letter_of}
use Rattle.bf_cells.proofs.RowFacts.{word_of}
use Rattle.bf_cells.proofs.cells.push_instances_word.Goals as goal

pub returns-in_ok-push_instance_letters : goal.returns-in_ok-push_instance_letters
returns-in_ok-push_instance_letters c =
    let text = string_bytes c.args.text.now in
    let letter = λ (ended : TaskResult). ended_letter_of ended.outcome ended.tries in
    c.in_ok-push_instance_letters.ensures
    ∙ ap (λ t. t ++ map letter c.results.result.now) c.in_ok-push_str.ensures.bytes
    ∙ ap (λ rs. (text ++ 32 ∷ []) ++ map letter rs) c.results.ensures
    ∙ append_assoc text (32 ∷ []) _
    ∙ ap (λ word. text ++ word) (word_of c.args.task.now _ (sym c.task_report.ensures ∙ c.in-Mapped.is))
