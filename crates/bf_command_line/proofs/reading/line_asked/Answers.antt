use Rattle.std.proofs.Common.{◌≡◌, rules, Some, List, sym, ap, ◌∙◌}
use Rattle.clap.specs.Kinds.{or_else}
use Rattle.clap.specs.Words.{HasKind, Kinds, Row, Text, found_of, rows_of, subcommand_rows_of}
use Rattle.clap.specs.declared.parser.matches.ArgMatches.TheViews.{out-ArgMatches}
use Rattle.bf_command_line.specs.Wrongs.{command_wrongs, found_wrongs, out_wrongs}
use Rattle.bf_command_line.proofs.Rows.{both}
use Rattle.bf_command_line.proofs.Words.{of_first}
use Rattle.bf_command_line.proofs.reading.line_asked.Goals as goal

pub returns-in_err-out-in-Some-clause-err : goal.returns-in_err-out-in-Some-clause-err
returns-in_err-out-in-Some-clause-err c =
    let name : Text = c.in-Some.name.now in
    let rows : List Row = rows_of (found_of c.in-Some.inner.now) in
    let there : subcommand_rows_of c.args.matches.now ≡ Some (name, rows) =
    both _ (out-ArgMatches c.args.matches.now).subcommand _ _ (sym c.in-Some.ensures.name) (sym c.in-Some.ensures.rows) in
    let has : HasKind (found_wrongs (subcommand_rows_of c.args.matches.now)) c.in_err-out-in-Some.field-0.0 =
    rw there (of_first (out_wrongs rows) (command_wrongs name rows) c.in_err-out-in-Some.field-0.0 c.in_err-out-in-Some.ensures.err) in
    search rules

pub returns-in_err-command-in-Some-clause-err : goal.returns-in_err-command-in-Some-clause-err
returns-in_err-command-in-Some-clause-err c =
    let name : Text = c.in-Some.name.now in
    let rows : List Row = rows_of (found_of c.in-Some.inner.now) in
    let there : subcommand_rows_of c.args.matches.now ≡ Some (name, rows) =
    both _ (out-ArgMatches c.args.matches.now).subcommand _ _ (sym c.in-Some.ensures.name) (sym c.in-Some.ensures.rows) in
    let has : HasKind (found_wrongs (subcommand_rows_of c.args.matches.now)) c.in_err-command-in-Some.field-0.0 =
    rw (there, c.in_ok-out-in-Some.ensures.err) c.in_err-command-in-Some.ensures.err in
    search rules

pub returns-in_ok-command-in-Some-clause-err : goal.returns-in_ok-command-in-Some-clause-err
returns-in_ok-command-in-Some-clause-err c =
    let name : Text = c.in-Some.name.now in
    let rows : List Row = rows_of (found_of c.in-Some.inner.now) in
    let there : subcommand_rows_of c.args.matches.now ≡ Some (name, rows) =
    both _ (out-ArgMatches c.args.matches.now).subcommand _ _ (sym c.in-Some.ensures.name) (sym c.in-Some.ensures.rows) in
    ap found_wrongs there ∙ (ap (λ (k : Kinds). or_else k (command_wrongs name rows)) c.in_ok-out-in-Some.ensures.err ∙ c.in_ok-command-in-Some.ensures.err)
