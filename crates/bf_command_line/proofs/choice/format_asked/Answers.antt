use Rattle.std.proofs.Common.{rules, codes, sym, ap, ◌∙◌, option_map}
use Rattle.clap.specs.Words.{first_of, found_of, rows_of}
use Rattle.bf_command_line.specs.Wrongs.{format_words}
use Rattle.bf_command_line.proofs.Rows.{first_rows}
use Rattle.bf_command_line.proofs.Words.{unlisted}
use Rattle.bf_command_line.proofs.choice.format_asked.Goals as goal

pub returns-in_ok-unknown_format_error-in-Some-clause-err : goal.returns-in_ok-unknown_format_error-in-Some-clause-err
returns-in_ok-unknown_format_error-in-Some-clause-err c =
    unlisted format_words (first_of (codes "format") (rows_of (found_of c.args.matches.now))) c.in-Some.field-0.now c.in_ok-unknown_format_error-in-Some.field-0
    (sym (first_rows (found_of c.args.matches.now) (codes "format")) ∙ (sym c.get_str.ensures ∙ ap (option_map (λ s. s.now)) c.in-Some.is)) (search rules) (search rules)
