use Rattle.std.proofs.Common.{rules, map, string_bytes, List}
use Rattle.clap.specs.Words.{Text, fault_of, subcommand_of}
use Rattle.bf_grammar.specs.Grammar.{backfill_app}
use Rattle.bf_command_line.specs.Wrongs.{found_wrongs}
use Rattle.bf_command_line.proofs.Words.{of_first}
use Rattle.bf_command_line.proofs.reading.asked.Goals as goal

pub returns-in_err-matches-clause-err : goal.returns-in_err-matches-clause-err
returns-in_err-matches-clause-err c =
    let words : List Text = map string_bytes c.args.words.now in
    let has = of_first (fault_of backfill_app words) (found_wrongs (subcommand_of backfill_app words)) c.in_err-matches.field-0.0 c.in_err-matches.ensures.err in
    search rules
