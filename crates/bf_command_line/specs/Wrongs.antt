-- What is wrong with the words of a command line.
use Rattle.std.specs.Prelude.{◌&&◌, ◌||◌, ◌==◌, not, Bool, true, false, length, List, [], ◌∷◌, Option, None, Some, codes, bytes_eq, is_some, if◌then◌else◌}
use Rattle.std.specs.List.{list_any}
use Rattle.clap.specs.Kinds.{or_else}
use Rattle.clap.specs.Words.{Kinds, Row, Text, fault_of, first_of, subcommand_of}
use Rattle.clap.specs.declared.error.kind.ErrorKind.TheVariants.{ArgumentConflict, InvalidValue, MissingRequiredArgument, WrongNumberOfValues}
use Rattle.bf_command_line.specs.Asked.{color_word, format_word, has_grid_options_in, has_seeds_in, has_some, is_given_in, is_overwritten_in, says_true, shell_word, texts_in}
use Rattle.bf_grammar.specs.Grammar.{backfill_app}
use Rattle.bf_command_line.specs.declared.forms.Color.TheVariants.{Always, Auto, Never}
use Rattle.bf_command_line.specs.declared.forms.Format.TheVariants.{Graph, Table}
use Rattle.bf_command_line.specs.declared.forms.Shell.TheVariants.{Bash, Fish, Zsh}

abbrev pub format_words : List Text
format_words = format_word Graph ∷ format_word Table ∷ []

abbrev pub shell_words : List Text
shell_words = shell_word Bash ∷ shell_word Zsh ∷ shell_word Fish ∷ []

abbrev pub color_words : List Text
color_words = color_word Auto ∷ color_word Always ∷ color_word Never ∷ []

-- the value is none of the words that are possible
abbrev pub value_wrongs : List Text → Option Text → Kinds
value_wrongs words None = []
value_wrongs words (Some value) = if list_any (bytes_eq value) words then [] else InvalidValue ∷ []

-- `--from` and `--to` stand both, or `--on` in their place
abbrev pub starts_wrongs : Option Text → Option Text → Option Text → Kinds
starts_wrongs None (Some from) (Some to) = []
starts_wrongs (Some days) None None = []
starts_wrongs None from to = MissingRequiredArgument ∷ []
starts_wrongs (Some days) from to = ArgumentConflict ∷ []

abbrev pub range_wrongs : List Row → Kinds
range_wrongs rows =
    starts_wrongs (first_of (codes "on") rows) (first_of (codes "from") rows)
    (first_of (codes "to") rows)

-- `--stop-after` and `--retry-failed` stand beside a journal alone
abbrev pub journal_wrongs : List Row → Kinds
journal_wrongs rows =
    if not (is_some (first_of (codes "journal") rows))
    && (is_some (first_of (codes "stop_after") rows)
    || says_true (first_of (codes "retry_failed") rows))
    then MissingRequiredArgument ∷ [] else []

-- a path of no byte
abbrev pub empty_wrongs : Option Text → Kinds
empty_wrongs (Some []) = InvalidValue ∷ []
empty_wrongs path = []

-- the range comes before the journal, and that before the folder of logs
abbrev pub programs_wrongs : List Row → Kinds
programs_wrongs rows =
    or_else (range_wrongs rows) (or_else (journal_wrongs rows)
    (empty_wrongs (first_of (codes "logs") rows)))

-- there are as many runs as tasks, and as many indexes where there are some
abbrev pub pair_wrongs : List Text → List Text → List Text → Kinds
pair_wrongs tasks runs indexes =
    if not (length tasks == length runs) then MissingRequiredArgument ∷ []
    else (if has_some indexes && not (length indexes == length tasks) then WrongNumberOfValues ∷ []
    else [])

-- one of these tells what is cleared: a file, seeds one by one, or `--failed`
abbrev pub choice_wrongs : Option Text → Bool → Bool → Kinds → Kinds
choice_wrongs None true false paired = paired
choice_wrongs (Some file) false false paired = []
choice_wrongs None false true paired = []
choice_wrongs None false false paired = MissingRequiredArgument ∷ []
choice_wrongs None true true paired = ArgumentConflict ∷ []
choice_wrongs (Some file) seeds failed paired = ArgumentConflict ∷ []

abbrev pub seeds_wrongs : List Row → Kinds
seeds_wrongs rows =
    pair_wrongs (texts_in (codes "task") rows) (texts_in (codes "run") rows)
    (texts_in (codes "index") rows)

abbrev pub cleared_wrongs : List Row → Kinds
cleared_wrongs rows =
    choice_wrongs (first_of (codes "seeds") rows) (has_seeds_in rows)
    (says_true (first_of (codes "failed") rows)) (seeds_wrongs rows)

-- what is cleared comes before the range
abbrev pub clear_wrongs : List Row → Kinds
clear_wrongs rows = or_else (cleared_wrongs rows) (programs_wrongs rows)

-- a report stands beside a graph, or alone behind `--json`
abbrev pub show_wrongs : List Row → Kinds
show_wrongs rows =
    if is_given_in (codes "json") rows then (if has_grid_options_in rows then ArgumentConflict ∷ [] else [])
    else (if is_given_in (codes "graph") rows && is_given_in (codes "report") rows
    then value_wrongs color_words (first_of (codes "color") rows)
    else MissingRequiredArgument ∷ [])

-- `--index` stands beside a task alone
abbrev pub explain_wrongs : List Row → Kinds
explain_wrongs rows =
    if is_some (first_of (codes "index") rows) && not (is_some (first_of (codes "task") rows))
    then MissingRequiredArgument ∷ [] else []

-- of the arguments of the command of this name, those that `clap` doesn't look at
abbrev pub command_wrongs : Text → List Row → Kinds
command_wrongs name rows =
    if bytes_eq name (codes "schema")
    then value_wrongs format_words (first_of (codes "format") rows)
    else (if bytes_eq name (codes "completions")
    then value_wrongs shell_words (first_of (codes "shell") rows)
    else (if bytes_eq name (codes "run") then programs_wrongs rows
    else (if bytes_eq name (codes "clear") then clear_wrongs rows
    else (if bytes_eq name (codes "show") then show_wrongs rows
    else (if bytes_eq name (codes "list") || bytes_eq name (codes "dry") then range_wrongs rows
    else (if bytes_eq name (codes "explain") then explain_wrongs rows else []))))))

-- a report is written over no file that the command reads, but the report that it goes on from, and not over its journal
abbrev pub out_wrongs : List Row → Kinds
out_wrongs rows =
    if is_overwritten_in rows (first_of (codes "out") rows) then ArgumentConflict ∷ [] else []

-- the path of the report comes before the command's other arguments
abbrev pub found_wrongs : Option (Text × List Row) → Kinds
found_wrongs None = []
found_wrongs (Some (name, rows)) = or_else (out_wrongs rows) (command_wrongs name rows)

-- what `clap` finds, and else a value that isn't possible
abbrev pub wrongs_of : List Text → Kinds
wrongs_of words =
    or_else (fault_of backfill_app words) (found_wrongs (subcommand_of backfill_app words))
