use Rattle.std.proofs.Common.{ℕ, ℤ, List, ◌++◌, codes, string_bytes, ap, ◌∙◌}
use Rattle.json.specs.Print.{quoted}
use Rattle.bf_moment.specs.Moment.{moment_text}
use Rattle.bf_report.specs.Report.{run_state_word_of}
use Rattle.bf_show.specs.declared.key.Key.TheVariants.{End, RunState}
use Rattle.bf_show.specs.Pieces.{key_text}
use Rattle.bf_show.proofs.LineFacts.{start_made}
use Rattle.bf_show.proofs.lines.line_start_of.Goals as goal

pub returns : goal.returns
returns c =
    let run = c.args.run.now in
    let moment : ℤ → List ℕ = λ n. quoted (moment_text n) in
    let first = c.in_ok-push_moment.ensures ∙ ap (λ t. t ++ moment c.new.result.at.nanosecond) c.in_ok-text.ensures.ok ∙ ap (λ at. codes "{\"run\":" ++ moment at.nanosecond) c.new.ensures in
    let second = c.in_ok-push_moment-2.ensures ∙ ap (λ t. t ++ moment c.new-2.result.at.nanosecond) (c.in_ok-push_key.ensures ∙ ap (λ t. t ++ key_text End) first) ∙ ap (λ at. ((codes "{\"run\":" ++ moment run.interval.start.nanosecond) ++ key_text End) ++ moment at.nanosecond) c.new-2.ensures in
    c.in_ok-push_str.ensures.bytes ∙ ap (λ s. string_bytes c.push_key-2.new.text ++ s) c.run_state_string.ensures
    ∙ ap (λ t. t ++ quoted (run_state_word_of run.state)) (c.in_ok-push_key-2.ensures ∙ ap (λ t. t ++ key_text RunState) second)
    ∙ start_made run
