-- What the matches of a command line ask for.
use Rattle.std.specs.Prelude.{◌≡◌, ◌&&◌, ◌||◌, ◌==◌, ℕ, ℤ, Bool, true, false, not, List, [], length, slice_get, Option, None, Some, Ok, codes, bytes_eq, is_some, option_map, unwrap_or, String, string_bytes}
use Rattle.std.specs.Int.{w32}
use Rattle.std.specs.declared.alloc.Global.{Global}
use Rattle.std.specs.Str.Parse.{ParsesSigned, ParsesUnsigned}
use Rattle.clap.specs.Words.{Row, Text, all_of, first_of}
use Rattle.bf_command_line.specs.declared.forms.Asked.{Asked}
use Rattle.bf_command_line.specs.declared.forms.Asked.TheVariants.{Answers, Check, Clear, ClearPlan, Completions, Dry, Explain, Keep, List as Intervals, Page, Run, Schema, Show, ShowJson, Single}
use Rattle.bf_command_line.specs.declared.forms.ClearAsked.{ClearAsked}
use Rattle.bf_command_line.specs.declared.forms.ClearedAsked.{ClearedAsked}
use Rattle.bf_command_line.specs.declared.forms.ClearedAsked.TheVariants as cleared
use Rattle.bf_command_line.specs.declared.forms.Color.{Color}
use Rattle.bf_command_line.specs.declared.forms.Color.TheVariants as color
use Rattle.bf_command_line.specs.declared.forms.CommandLine.{CommandLine}
use Rattle.bf_command_line.specs.declared.forms.Format.{Format}
use Rattle.bf_command_line.specs.declared.forms.Format.TheVariants as format
use Rattle.bf_command_line.specs.declared.forms.GraphAsked.{GraphAsked}
use Rattle.bf_command_line.specs.declared.forms.JournalAsked.{JournalAsked}
use Rattle.bf_command_line.specs.declared.forms.RangeAsked.{RangeAsked}
use Rattle.bf_command_line.specs.declared.forms.RunAsked.{RunAsked}
use Rattle.bf_command_line.specs.declared.forms.SeedAsked.{SeedAsked}
use Rattle.bf_command_line.specs.declared.forms.Shell.{Shell}
use Rattle.bf_command_line.specs.declared.forms.Shell.TheVariants.{Bash, Fish, Zsh}
use Rattle.bf_command_line.specs.declared.forms.StartsAsked.{StartsAsked}
use Rattle.bf_command_line.specs.declared.forms.TaskAsked.{TaskAsked}
use Rattle.bf_command_line.specs.declared.forms.StartsAsked.TheVariants.{Between, On}

-- the paths of a graph file and of a zone file
abbrev pub IsGraphBy : List Row → GraphAsked → Type 0
IsGraphBy rows g = (first_of (codes "graph") rows ≡ Some (string_bytes g.graph))
    × (first_of (codes "zone_file") rows ≡ option_map string_bytes g.zone_file)

-- the text says yes
abbrev pub says_true : Option Text → Bool
says_true None = false
says_true (Some text) = bytes_eq text (codes "true")

-- the text is this one
abbrev pub says_word_in : Option Text → Text → Bool
says_word_in None words = false
says_word_in (Some text) words = bytes_eq text words

-- the path is that of a graph, a table, a zone file, seeds or a journal
abbrev pub is_overwritten_in : List Row → Option Text → Bool
is_overwritten_in rows None = false
is_overwritten_in rows (Some path) = says_word_in (first_of (codes "graph") rows) path
    || (says_word_in (first_of (codes "table") rows) path
    || (says_word_in (first_of (codes "zone_file") rows) path
    || (says_word_in (first_of (codes "seeds") rows) path
    || says_word_in (first_of (codes "journal") rows) path)))

-- where data intervals start: the first and the last moment of a range, or days
abbrev pub IsStartsBy : List Row → StartsAsked → Type 0
IsStartsBy rows (Between from to) = (first_of (codes "on") rows ≡ None)
    × (first_of (codes "from") rows ≡ Some (string_bytes from))
    × (first_of (codes "to") rows ≡ Some (string_bytes to))
IsStartsBy rows (On days) = (first_of (codes "on") rows ≡ Some (string_bytes days))
    × (first_of (codes "from") rows ≡ None)
    × (first_of (codes "to") rows ≡ None)

-- so it is told, and whether there have to be some
abbrev pub IsRangeBy : List Row → RangeAsked → Type 0
IsRangeBy rows r = IsStartsBy rows r.starts × (r.some ≡ says_true (first_of (codes "some") rows))

-- each value of an argument
abbrev pub texts_in : Text → List Row → List Text
texts_in id rows = unwrap_or (all_of id rows) []

-- the number that the text says in decimal digits, maybe behind a sign, where there is a text
abbrev pub IsIntegerIfGiven : Option Text → Option ℤ → Type 0
IsIntegerIfGiven None n = n ≡ None
IsIntegerIfGiven (Some text) None = ⊥
IsIntegerIfGiven (Some text) (Some n) = ParsesSigned {E = Unit {0}} w32 10 text (Ok n)

-- the task, the logical date of its run and maybe the map index in this place of theirs
abbrev pub IsSeedAt : List Row → ℕ → SeedAsked → Type 0
IsSeedAt rows k s = (slice_get (texts_in (codes "task") rows) k ≡ Some (string_bytes s.task))
    × (slice_get (texts_in (codes "run") rows) k ≡ Some (string_bytes s.run))
    × IsIntegerIfGiven (slice_get (texts_in (codes "index") rows) k) s.index

-- one seed for each task, in order
abbrev pub AreSeedsBy : List Row → List SeedAsked → Type 0
AreSeedsBy rows seeds = (length seeds ≡ length (texts_in (codes "task") rows))
    × ((k : ℕ) (seed : SeedAsked) → slice_get seeds k ≡ Some seed → IsSeedAt rows k seed)

abbrev pub has_some : List Text → Bool
has_some texts = not (length texts == 0)

-- something is told of seeds one by one
abbrev pub has_seeds_in : List Row → Bool
has_seeds_in rows =
    has_some (texts_in (codes "task") rows)
    || (has_some (texts_in (codes "run") rows) || has_some (texts_in (codes "index") rows))

-- what is cleared: seeds, the lines of a file, or what failed
abbrev pub IsClearedBy : List Row → ClearedAsked → Type 0
IsClearedBy rows (cleared.Seeds seeds) = (first_of (codes "seeds") rows ≡ None)
    × (says_true (first_of (codes "failed") rows) ≡ false)
    × AreSeedsBy rows seeds.items
IsClearedBy rows (cleared.File path) = (first_of (codes "seeds") rows ≡ Some (string_bytes path))
    × (says_true (first_of (codes "failed") rows) ≡ false)
    × (has_seeds_in rows ≡ false)
IsClearedBy rows cleared.Failed = (first_of (codes "seeds") rows ≡ None)
    × (says_true (first_of (codes "failed") rows) ≡ true)
    × (has_seeds_in rows ≡ false)
IsClearedBy rows cleared.Nothing = ⊥

-- the task that is explained, where there is one, and maybe the map index of one of its instances
abbrev pub IsTaskBy : List Row → Option TaskAsked → Type 0
IsTaskBy rows None = (first_of (codes "task") rows ≡ None) × (first_of (codes "index") rows ≡ None)
IsTaskBy rows (Some t) = (first_of (codes "task") rows ≡ Some (string_bytes t.id))
    × IsIntegerIfGiven (first_of (codes "index") rows) t.index

-- the number that the text says in decimal digits, or one where there is no text
abbrev pub IsNumberOr1 : Option Text → ℕ → Type 0
IsNumberOr1 None n = n ≡ 1
IsNumberOr1 (Some text) n = ParsesUnsigned {E = Unit {0}} 32 10 text (Ok n)

-- how many workers there are
abbrev pub IsWorkersBy : List Row → ℕ → Type 0
IsWorkersBy rows n = IsNumberOr1 (first_of (codes "workers") rows) n

-- whether progress is told
abbrev pub IsProgressBy : List Row → Bool → Type 0
IsProgressBy rows told = told ≡ says_true (first_of (codes "progress") rows)

-- so it is, where nothing is to be quiet
abbrev pub IsProgressUnlessQuietBy : List Row → Bool → Type 0
IsProgressUnlessQuietBy rows told =
    told ≡ (says_true (first_of (codes "progress") rows)
    && not (says_true (first_of (codes "quiet") rows)))

-- whether nothing is told of progress and of tries that fail
abbrev pub IsQuietBy : List Row → Bool → Type 0
IsQuietBy rows quiet = quiet ≡ says_true (first_of (codes "quiet") rows)

-- the path of the program that words are handed to
abbrev pub IsLauncherBy : List Row → Option (String Global) → Type 0
IsLauncherBy rows launcher = first_of (codes "launcher") rows ≡ option_map string_bytes launcher

-- the path of the folder of logs
abbrev pub IsLogsBy : List Row → Option (String Global) → Type 0
IsLogsBy rows logs = first_of (codes "logs") rows ≡ option_map string_bytes logs

-- the number that the text says in decimal digits, where there is a text
abbrev pub IsNumberIfGiven : Option Text → Option ℕ → Type 0
IsNumberIfGiven None n = n ≡ None
IsNumberIfGiven (Some text) None = ⊥
IsNumberIfGiven (Some text) (Some n) = ParsesUnsigned {E = Unit {0}} 32 10 text (Ok n)

-- the journal, where one is named, and how it is used
abbrev pub IsJournalBy : List Row → Option JournalAsked → Type 0
IsJournalBy rows None = first_of (codes "journal") rows ≡ None
IsJournalBy rows (Some j) = (first_of (codes "journal") rows ≡ Some (string_bytes j.path))
    × IsNumberIfGiven (first_of (codes "stop_after") rows) j.stop_after
    × (j.retry_failed ≡ says_true (first_of (codes "retry_failed") rows))

-- an argument has a value
abbrev pub is_given_in : Text → List Row → Bool
is_given_in id rows = is_some (first_of id rows)

-- something is told of a grid
abbrev pub has_grid_options_in : List Row → Bool
has_grid_options_in rows =
    is_given_in (codes "graph") rows
    || (is_given_in (codes "report") rows || (is_given_in (codes "zone_file") rows
    || (is_given_in (codes "from") rows
    || (is_given_in (codes "to") rows || (is_given_in (codes "width") rows
    || (is_given_in (codes "color") rows || says_true (first_of (codes "failed") rows)))))))

-- the word for when text is coloured
abbrev pub color_word : Color → Text
color_word color.Auto = codes "auto"
color_word color.Always = codes "always"
color_word color.Never = codes "never"

-- when text is coloured: automatically where that isn't told
abbrev pub IsColorBy : Option Text → Color → Type 0
IsColorBy None when = when ≡ color.Auto
IsColorBy (Some text) when = text ≡ color_word when

-- the word of a format
abbrev pub format_word : Format → Text
format_word format.Graph = codes "graph"
format_word format.Table = codes "table"

-- the format whose schema is printed
abbrev pub IsFormatBy : List Row → Format → Type 0
IsFormatBy rows format = first_of (codes "format") rows ≡ Some (format_word format)

-- the word of a shell
abbrev pub shell_word : Shell → Text
shell_word Bash = codes "bash"
shell_word Zsh = codes "zsh"
shell_word Fish = codes "fish"

-- the shell whose completions are printed
abbrev pub IsShellBy : List Row → Shell → Type 0
IsShellBy rows shell = first_of (codes "shell") rows ≡ Some (shell_word shell)

-- what a command that starts programs asks for beside its files
abbrev pub IsProgramsBy : List Row → RunAsked → Type 0
IsProgramsBy rows r = IsGraphBy rows r.graph
    × IsRangeBy rows r.range
    × IsWorkersBy rows r.workers
    × IsProgressUnlessQuietBy rows r.progress
    × IsQuietBy rows r.quiet
    × IsLauncherBy rows r.launcher
    × IsLogsBy rows r.logs
    × IsJournalBy rows r.journal

-- `run` that keeps a report; or where there is a table `dry`, which starts no program
abbrev pub IsKeepingBy : Text → List Row → Option (String Global) → ClearAsked → Type 0
IsKeepingBy name rows None c = (name ≡ codes "run")
    × IsProgressUnlessQuietBy rows c.progress
    × IsQuietBy rows c.quiet
    × IsLauncherBy rows c.launcher
    × IsLogsBy rows c.logs
    × IsJournalBy rows c.journal
IsKeepingBy name rows (Some table) c = (name ≡ codes "dry")
    × (first_of (codes "table") rows ≡ Some (string_bytes table))
    × IsProgressBy rows c.progress
    × (c.quiet ≡ false)
    × (c.launcher ≡ None)
    × (c.logs ≡ None)
    × (c.journal ≡ None)

-- the subcommand's name, and the value of each of its arguments
abbrev pub IsAskedBy : Option (Text × List Row) → Asked → Type 0
IsAskedBy None a = ⊥
IsAskedBy (Some (name, rows)) (Check c) = (name ≡ codes "check")
    × IsGraphBy rows c.graph
    × (c.explain ≡ says_true (first_of (codes "explain") rows))
IsAskedBy (Some (name, rows)) (Intervals l) = (name ≡ codes "list")
    × IsGraphBy rows l.graph
    × IsRangeBy rows l.range
IsAskedBy (Some (name, rows)) (Single s) = (name ≡ codes "single")
    × IsGraphBy rows s.graph
    × (first_of (codes "table") rows ≡ Some (string_bytes s.table))
    × (first_of (codes "at") rows ≡ Some (string_bytes s.at))
IsAskedBy (Some (name, rows)) (Dry d) = (name ≡ codes "dry")
    × IsGraphBy rows d.graph
    × (first_of (codes "table") rows ≡ Some (string_bytes d.table))
    × IsRangeBy rows d.range
    × IsWorkersBy rows d.workers
    × IsProgressBy rows d.progress
    × (first_of (codes "keep") rows ≡ None)
IsAskedBy (Some (name, rows)) (Run r) = (name ≡ codes "run")
    × IsProgramsBy rows r
    × (first_of (codes "keep") rows ≡ None)
IsAskedBy (Some (name, rows)) (Keep c) =
    (first_of (codes "keep") rows ≡ Some (string_bytes c.report))
    × IsGraphBy rows c.graph
    × IsRangeBy rows c.range
    × (c.cleared ≡ cleared.Nothing)
    × IsWorkersBy rows c.workers
    × IsKeepingBy name rows c.table c
IsAskedBy (Some (name, rows)) (Clear c) = (name ≡ codes "clear")
    × IsGraphBy rows c.graph
    × (first_of (codes "report") rows ≡ Some (string_bytes c.report))
    × IsRangeBy rows c.range
    × IsClearedBy rows c.cleared
    × (says_true (first_of (codes "plan") rows) ≡ false)
    × (first_of (codes "table") rows ≡ option_map string_bytes c.table)
    × IsWorkersBy rows c.workers
    × IsProgressUnlessQuietBy rows c.progress
    × IsQuietBy rows c.quiet
    × IsLauncherBy rows c.launcher
    × IsLogsBy rows c.logs
    × IsJournalBy rows c.journal
IsAskedBy (Some (name, rows)) (ClearPlan c) = (name ≡ codes "clear")
    × IsGraphBy rows c.graph
    × (first_of (codes "report") rows ≡ Some (string_bytes c.report))
    × IsRangeBy rows c.range
    × IsClearedBy rows c.cleared
    × (says_true (first_of (codes "plan") rows) ≡ true)
IsAskedBy (Some (name, rows)) (Show s) = (name ≡ codes "show")
    × (first_of (codes "json") rows ≡ None)
    × IsGraphBy rows s.graph
    × (first_of (codes "report") rows ≡ Some (string_bytes s.report))
    × (first_of (codes "from") rows ≡ option_map string_bytes s.from)
    × (first_of (codes "to") rows ≡ option_map string_bytes s.to)
    × (s.failed ≡ says_true (first_of (codes "failed") rows))
    × IsNumberIfGiven (first_of (codes "width") rows) s.width
    × IsColorBy (first_of (codes "color") rows) s.color
IsAskedBy (Some (name, rows)) (ShowJson report) = (name ≡ codes "show")
    × (first_of (codes "json") rows ≡ Some (string_bytes report))
    × (has_grid_options_in rows ≡ false)
IsAskedBy (Some (name, rows)) (Page p) = (name ≡ codes "page")
    × IsGraphBy rows p.graph
    × (first_of (codes "report") rows ≡ Some (string_bytes p.report))
    × (p.states_only ≡ says_true (first_of (codes "states_only") rows))
    × (first_of (codes "journal") rows ≡ option_map string_bytes p.journal)
IsAskedBy (Some (name, rows)) (Explain e) = (name ≡ codes "explain")
    × IsGraphBy rows e.graph
    × (first_of (codes "report") rows ≡ Some (string_bytes e.report))
    × (first_of (codes "run") rows ≡ Some (string_bytes e.run))
    × IsTaskBy rows e.task
IsAskedBy (Some (name, rows)) (Answers report) =
    (name ≡ codes "answers") × (first_of (codes "report") rows ≡ Some (string_bytes report))
IsAskedBy (Some (name, rows)) (Schema format) = (name ≡ codes "schema") × IsFormatBy rows format
IsAskedBy (Some (name, rows)) (Completions shell) =
    (name ≡ codes "completions") × IsShellBy rows shell

-- the path of the file that a report goes to
abbrev pub IsOutBy : Option (Text × List Row) → Option (String Global) → Type 0
IsOutBy None out = ⊥
IsOutBy (Some (name, rows)) out = first_of (codes "out") rows ≡ option_map string_bytes out

-- what the whole line asks for
pub record IsLineBy (matched : Option (Text × List Row)) (line : CommandLine) : Type 0 where
  pub asks : IsAskedBy matched line.command
  pub out_is : IsOutBy matched line.out
