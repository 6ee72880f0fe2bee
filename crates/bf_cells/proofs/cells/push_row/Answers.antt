use Rattle.std.proofs.Common.{◌++◌, ◌∷◌, [], ap, ◌∙◌, string_bytes}
use Rattle.std.specs.List.{flat_map, filter_map, join_with_byte}
use Rattle.bf_moment.specs.Moment.{moment_text}
use Rattle.bf_report.specs.Report.{run_state_word_of}
use Rattle.bf_cells.specs.Cells.{instances_word, letters_from}
use Rattle.bf_cells.specs.inner.Rows.{word_behind}
use Rattle.bf_cells.proofs.RowFacts.{row_in_pieces}
use Rattle.bf_cells.proofs.cells.push_row.Goals as goal

pub returns : goal.returns
returns c = λ report here earlier.
    let run = c.args.run.now in
    let text = string_bytes c.args.text.now in
    let start = moment_text run.interval.start.nanosecond in
    let end = moment_text run.interval.end.nanosecond in
    let state = run_state_word_of run.state in
    let letters = letters_from c.args.plan.now.dag report c.args.number 0 c.args.settled.now in
    let words = flat_map word_behind c.args.settled.now in
    c.in_ok-push_str.ensures.bytes
    ∙ ap (λ t. t ++ 10 ∷ []) c.in_ok-push_instances_words.ensures
    ∙ ap (λ t. (t ++ words) ++ 10 ∷ []) (c.in_ok-push_letters.ensures report here earlier)
    ∙ ap (λ t. ((t ++ letters) ++ words) ++ 10 ∷ []) c.in_ok-push_interval_and_state.ensures
    ∙ row_in_pieces text start end state letters c.args.settled.now
    ∙ ap (λ tasks. text ++ (join_with_byte 32 (start ∷ end ∷ state ∷ letters_from c.args.plan.now.dag report c.args.number 0 tasks ∷ filter_map instances_word tasks) ++ 10 ∷ [])) c.requires.tasks
