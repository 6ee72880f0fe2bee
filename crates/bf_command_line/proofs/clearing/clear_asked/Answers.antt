use Rattle.std.proofs.Common.{rules, List}
use Rattle.clap.specs.Words.{Row, found_of, rows_of}
use Rattle.bf_command_line.specs.Wrongs.{cleared_wrongs, programs_wrongs}
use Rattle.bf_command_line.proofs.Words.{of_first}
use Rattle.bf_command_line.proofs.clearing.clear_asked.Goals as goal

pub returns-in_err-cleared-clause-err : goal.returns-in_err-cleared-clause-err
returns-in_err-cleared-clause-err c =
    let rows : List Row = rows_of (found_of c.args.matches.now) in
    let has = of_first (cleared_wrongs rows) (programs_wrongs rows) c.in_err-cleared.field-0.0 c.in_err-cleared.ensures.err in
    search rules
