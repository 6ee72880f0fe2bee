-- The command line, in clap's words.
use Rattle.std.specs.Prelude.{true, [], Some, codes, pos, negsuc}
use Rattle.clap.specs.declared.builder.action.ArgAction.TheVariants.{Append, SetTrue}
use Rattle.clap.specs.declared.builder.value_parser.ValueParser.TheVariants.{Signed}
use Rattle.clap.specs.Words.{App, Rule, Text, new_app, new_rule, with_rule, with_subcommand}
use Rattle.clap.specs.Simple.{new_shape}

-- an argument by its place, which has to be there
abbrev pub positional_rule : Text → Rule
positional_rule id = record (new_rule id) { value_names = 1; required = true }

-- an option with a value
abbrev pub option_rule : Text → Text → Rule
option_rule id name = record (new_rule id) { long = Some name; value_names = 1 }

-- an option with a value, which has to be there
abbrev pub required_option_rule : Text → Rule
required_option_rule id = record (option_rule id id) { required = true }

-- an option with a value, which may be given several times
abbrev pub repeated_rule : Text → Rule
repeated_rule id = record (option_rule id id) { action = Some Append }

-- `GRAPH`
abbrev pub graph_rule : Rule
graph_rule = positional_rule (codes "graph")

-- `TABLE`
abbrev pub table_rule : Rule
table_rule = positional_rule (codes "table")

-- `--table PATH`
abbrev pub optional_table_rule : Rule
optional_table_rule = option_rule (codes "table") (codes "table")

-- `REPORT`
abbrev pub report_rule : Rule
report_rule = positional_rule (codes "report")

-- `--task ID ..`
abbrev pub task_rule : Rule
task_rule = repeated_rule (codes "task")

-- `--run T ..`, the option of a run's logical date
abbrev pub run_rule : Rule
run_rule = repeated_rule (codes "run")

-- `--index N ..`, a map index, which is -1 of a task that isn't expanded
abbrev pub index_rule : Rule
index_rule =
    record (repeated_rule (codes "index")) { parser = Some (Signed (negsuc 0) (pos 2_147_483_647)) }

-- `--task ID`, of one task
abbrev pub one_task_rule : Rule
one_task_rule = option_rule (codes "task") (codes "task")

-- `--run T`, of one run, which has to be there
abbrev pub one_run_rule : Rule
one_run_rule = required_option_rule (codes "run")

-- `--index N`, of one instance
abbrev pub one_index_rule : Rule
one_index_rule =
    record (option_rule (codes "index") (codes "index")) {
      parser = Some
          (Signed (negsuc 0) (pos 2_147_483_647));
    }

-- `--states-only`, a flag
abbrev pub states_only_rule : Rule
states_only_rule =
    record (new_rule (codes "states_only")) {
      long = Some (codes "states-only");
      action = Some SetTrue;
    }

-- `--seeds PATH`
abbrev pub seeds_rule : Rule
seeds_rule = option_rule (codes "seeds") (codes "seeds")

-- `--failed`, a flag
abbrev pub failed_rule : Rule
failed_rule =
    record (new_rule (codes "failed")) { long = Some (codes "failed"); action = Some SetTrue }

-- `--plan`, a flag
abbrev pub plan_rule : Rule
plan_rule = record (new_rule (codes "plan")) { long = Some (codes "plan"); action = Some SetTrue }

-- `--zone-file PATH`
abbrev pub zone_file_rule : Rule
zone_file_rule = option_rule (codes "zone_file") (codes "zone-file")

-- `--at T`
abbrev pub at_rule : Rule
at_rule = required_option_rule (codes "at")

-- `--from T`
abbrev pub from_rule : Rule
from_rule = option_rule (codes "from") (codes "from")

-- `--to T`
abbrev pub to_rule : Rule
to_rule = option_rule (codes "to") (codes "to")

-- `--on DAYS`
abbrev pub on_rule : Rule
on_rule = option_rule (codes "on") (codes "on")

-- `--some`, a flag
abbrev pub some_rule : Rule
some_rule = record (new_rule (codes "some")) { long = Some (codes "some"); action = Some SetTrue }

-- `--explain`, a flag
abbrev pub explain_rule : Rule
explain_rule =
    record (new_rule (codes "explain")) { long = Some (codes "explain"); action = Some SetTrue }

-- `--workers N`, a number from 1 to 64
abbrev pub workers_rule : Rule
workers_rule =
    record (option_rule (codes "workers") (codes "workers")) {
      parser = Some
          (Signed (pos 1) (pos 64));
    }

-- `--progress`, a flag
abbrev pub progress_rule : Rule
progress_rule =
    record (new_rule (codes "progress")) { long = Some (codes "progress"); action = Some SetTrue }

-- `--out PATH`
abbrev pub out_rule : Rule
out_rule = option_rule (codes "out") (codes "out")

-- `--keep REPORT`
abbrev pub keep_rule : Rule
keep_rule = option_rule (codes "keep") (codes "keep")

-- `--launcher PATH`
abbrev pub launcher_rule : Rule
launcher_rule = option_rule (codes "launcher") (codes "launcher")

-- `--logs FOLDER`
abbrev pub logs_rule : Rule
logs_rule = option_rule (codes "logs") (codes "logs")

-- `--journal PATH`
abbrev pub journal_rule : Rule
journal_rule = option_rule (codes "journal") (codes "journal")

-- `--stop-after N`, a number from 1 on
abbrev pub stop_after_rule : Rule
stop_after_rule =
    record (option_rule (codes "stop_after") (codes "stop-after")) {
      parser = Some
          (Signed (pos 1) (pos 4_294_967_295));
    }

-- `--retry-failed`, a flag
abbrev pub retry_failed_rule : Rule
retry_failed_rule =
    record (new_rule (codes "retry_failed")) {
      long = Some (codes "retry-failed");
      action = Some SetTrue;
    }

-- `--quiet`, a flag
abbrev pub quiet_rule : Rule
quiet_rule =
    record (new_rule (codes "quiet")) { long = Some (codes "quiet"); action = Some SetTrue }

-- an argument by its place, which may be left out
abbrev pub optional_positional_rule : Text → Rule
optional_positional_rule id = record (new_rule id) { value_names = 1 }

-- `--width N`, a number from 20 to 10,000
abbrev pub width_rule : Rule
width_rule =
    record (option_rule (codes "width") (codes "width")) {
      parser = Some
          (Signed (pos 20) (pos 10_000));
    }

-- `--color WHEN`
abbrev pub color_rule : Rule
color_rule = option_rule (codes "color") (codes "color")

-- `--json REPORT`
abbrev pub json_rule : Rule
json_rule = option_rule (codes "json") (codes "json")

-- `FORMAT`
abbrev pub format_rule : Rule
format_rule = positional_rule (codes "format")

-- `SHELL`
abbrev pub shell_rule : Rule
shell_rule = positional_rule (codes "shell")

-- `NAME GRAPH [--zone-file PATH]`
abbrev pub over_graph_app : Text → App
over_graph_app name = with_rule (with_rule (new_app name) graph_rule) zone_file_rule

-- a command with `[--from T] [--to T] [--on DAYS] [--some]`, where its data intervals start, behind its other arguments
abbrev pub dated_app : App → App
dated_app app =
    with_rule (with_rule (with_rule (with_rule app from_rule) to_rule) on_rule) some_rule

-- and with `[--workers N] [--progress] [--out PATH]` behind those
abbrev pub ranged_app : App → App
ranged_app app =
    with_rule (with_rule (with_rule (dated_app app) workers_rule) progress_rule) out_rule

-- a command that starts programs, with `[--launcher PATH] [--logs FOLDER] [--journal PATH] [--stop-after N] [--retry-failed]
-- [--quiet]` behind its other arguments
abbrev pub programs_app : App → App
programs_app app =
    with_rule (with_rule (with_rule
    (with_rule (with_rule (with_rule app launcher_rule) logs_rule) journal_rule) stop_after_rule)
    retry_failed_rule) quiet_rule

-- `check GRAPH [--explain] [--zone-file PATH]`
abbrev pub check_app : App
check_app = with_rule (over_graph_app (codes "check")) explain_rule

-- `list GRAPH RANGE [--zone-file PATH]`
abbrev pub list_app : App
list_app = dated_app (over_graph_app (codes "list"))

-- `single GRAPH TABLE --at T [--out PATH] [--zone-file PATH]`
abbrev pub single_app : App
single_app =
    with_rule (with_rule (with_rule (over_graph_app (codes "single")) table_rule) at_rule) out_rule

-- `dry GRAPH TABLE RANGE [--workers N] [--progress] [--out PATH] [--keep REPORT] [--zone-file PATH]`
abbrev pub dry_app : App
dry_app = with_rule (ranged_app (with_rule (over_graph_app (codes "dry")) table_rule)) keep_rule

-- `run GRAPH RANGE [--workers N] [--progress] [--out PATH] [--keep REPORT] [--launcher PATH] [--logs FOLDER] [--journal PATH ..] [--quiet] [--zone-file PATH]`
abbrev pub run_app : App
run_app = programs_app (with_rule (ranged_app (over_graph_app (codes "run"))) keep_rule)

-- a command with `[--task ID ..] [--run T ..] [--index N ..] [--seeds PATH] [--failed] [--plan]`, what is cleared, behind its other
-- arguments
abbrev pub cleared_app : App → App
cleared_app app =
    with_rule (with_rule (with_rule
    (with_rule (with_rule (with_rule app task_rule) run_rule) index_rule) seeds_rule) failed_rule)
    plan_rule

-- `clear GRAPH REPORT CLEARED [--table PATH] [--zone-file PATH]`, without its range
abbrev pub clearing_app : App
clearing_app =
    with_rule (cleared_app (with_rule
    (over_graph_app (codes "clear")) report_rule)) optional_table_rule

-- `clear GRAPH REPORT RANGE CLEARED [--table PATH] [--workers N] [--progress] [--out PATH] [--launcher PATH] [--logs FOLDER] [--journal PATH ..] [--quiet] [--zone-file PATH]`
abbrev pub clear_app : App
clear_app = programs_app (ranged_app clearing_app)

-- `show` with `[GRAPH] [REPORT] [--zone-file PATH] [--from T] [--to T]`
abbrev pub showing_app : App
showing_app =
    with_rule (with_rule (with_rule
    (with_rule (with_rule (new_app (codes "show")) (optional_positional_rule (codes "graph")))
    (optional_positional_rule (codes "report"))) zone_file_rule) from_rule) to_rule

-- `show GRAPH REPORT [--zone-file PATH] [--from T] [--to T] [--failed] [--width N] [--color WHEN]`, or `show --json REPORT`
abbrev pub show_app : App
show_app =
    with_rule (with_rule (with_rule
    (with_rule showing_app failed_rule) width_rule) color_rule) json_rule

-- `NAME GRAPH REPORT [--zone-file PATH]`
abbrev pub over_report_app : Text → App
over_report_app name = with_rule (over_graph_app name) report_rule

-- `page GRAPH REPORT [--states-only] [--journal PATH] [--zone-file PATH]`
abbrev pub page_app : App
page_app = with_rule (with_rule (over_report_app (codes "page")) states_only_rule) journal_rule

-- `explain GRAPH REPORT --run T [--task ID [--index N]] [--zone-file PATH]`
abbrev pub explain_app : App
explain_app =
    with_rule (with_rule (with_rule
    (over_report_app (codes "explain")) one_run_rule) one_task_rule) one_index_rule

-- `answers REPORT`
abbrev pub answers_app : App
answers_app = with_rule (new_app (codes "answers")) report_rule

-- `schema FORMAT`
abbrev pub schema_app : App
schema_app = with_rule (new_app (codes "schema")) format_rule

-- `completions SHELL`
abbrev pub completions_app : App
completions_app = with_rule (new_app (codes "completions")) shell_rule

-- `backfill`, which has a version, wants a subcommand, and without a word shows its help
abbrev pub bare_app : App
bare_app = record {
  top = record (new_shape (codes "backfill")) {
    has_version = true;
    subcommand_required = true;
    arg_required_else_help = true;
  };
  subs = [];
}

-- with the commands that look at a graph alone
abbrev pub looking_app : App
looking_app = with_subcommand (with_subcommand bare_app check_app.top) list_app.top

-- and those that a table answers
abbrev pub answered_app : App
answered_app = with_subcommand (with_subcommand looking_app single_app.top) dry_app.top

-- and those that start programs
abbrev pub running_app : App
running_app = with_subcommand (with_subcommand answered_app run_app.top) clear_app.top

-- and those that show a report
abbrev pub viewing_app : App
viewing_app =
    with_subcommand (with_subcommand
    (with_subcommand (with_subcommand running_app show_app.top) page_app.top) explain_app.top)
    answers_app.top

abbrev pub backfill_app : App
backfill_app = with_subcommand (with_subcommand viewing_app schema_app.top) completions_app.top
