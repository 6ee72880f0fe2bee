-- What the commands come to, by what the files hold that they name.
use Rattle.std.specs.Prelude.{◌≡◌, ℕ, List, Option, Some, None, String, map, option_map, string_bytes}
use Rattle.std.specs.Global.{Global}
use Rattle.clap.specs.Words.{Kinds, Row, Text, subcommand_of}
use Rattle.bf_device.specs.Device.{sent}
use Rattle.bf_file.specs.declared.call.Placed.{Placed}
use Rattle.bf_file.specs.Replacing.{HasReplaced}
use Rattle.bf_command_line.specs.declared.forms.Asked.{Asked}
use Rattle.bf_command_line.specs.declared.forms.Asked.TheVariants.{Answers, Check, Clear, ClearPlan, Completions, Dry, Explain, Keep, List as Intervals, Page, Run, Schema, Show, ShowJson, Single}
use Rattle.bf_command_line.specs.declared.forms.CommandLine.{CommandLine}
use Rattle.bf_command_line.specs.Asked.{IsLineBy}
use Rattle.bf_grammar.specs.Grammar.{backfill_app}
use Rattle.bf_command_line.specs.Wrongs as line
use Rattle.bf_command_fault.specs.declared.status.Status.{Status}
use Rattle.bf_command_fault.specs.Status.{code_of}
use Rattle.bf_commands.specs.Programs.{Hearing}
use Rattle.bf_views.specs.declared.canvas.Canvas.{Canvas}
use Rattle.bf_views.specs.Grids.{IsGridAnswer}
use Rattle.bf_views.specs.Json.{IsJsonAnswer}
use Rattle.bf_views.specs.Tables.{IsTableAnswer}
use Rattle.bf_views.specs.Pages.{IsPageAnswer}
use Rattle.bf_views.specs.Explanations.{IsExplainAnswer}
use Rattle.bf_backfills.specs.Commands.{IsCheckAnswer, IsClearAnswer, IsClearPlanAnswer, IsDryAnswer, IsListAnswer, IsRunAnswer, IsSingleAnswer, Machine}
use Rattle.bf_program.specs.Texts.{IsPrinted, completions_text, schema_text}
use Rattle.bf_disk.specs.Files.{Files}
use Rattle.bf_input.specs.Overwriting.{IsOverwriting, IsSparing, Leads, MayMiss}
use Rattle.bf_command_line.specs.Naming.{logs_of}

-- ---- the words of a line

-- what is wrong with them
abbrev pub wrongs_of : List (String Global) → Kinds
wrongs_of words = line.wrongs_of (map string_bytes words)

-- the subcommand that `clap` finds in them, with its arguments
abbrev pub found_in : List (String Global) → Option (Text × List Row)
found_in words = subcommand_of backfill_app (map string_bytes words)

-- ---- what is written, where nothing is refused and no fault comes

-- the text that a command is to write, and how it ends then; a grid that is shown has what the canvas has where the line doesn't say
abbrev pub IsAnswer : Hearing → Canvas → Files → Machine → Asked → List ℕ → Status → Type 0
IsAnswer may_hear canvas files machine (Check asked) text status =
    IsCheckAnswer files asked.graph text status
IsAnswer may_hear canvas files machine (Intervals asked) text status =
    IsListAnswer files asked text status
IsAnswer may_hear canvas files machine (Single asked) text status =
    IsSingleAnswer files asked text status
IsAnswer may_hear canvas files machine (Dry asked) text status = IsDryAnswer files asked text status
IsAnswer may_hear canvas files machine (Run asked) text status =
    IsRunAnswer may_hear files machine asked text status
IsAnswer may_hear canvas files machine (Clear asked) text status =
    IsClearAnswer may_hear files machine asked text status
IsAnswer may_hear canvas files machine (Keep asked) text status =
    IsClearAnswer may_hear files machine asked text status
IsAnswer may_hear canvas files machine (ClearPlan asked) text status =
    IsClearPlanAnswer files asked text status
IsAnswer may_hear canvas files machine (Show asked) text status =
    IsGridAnswer canvas files asked text status
IsAnswer may_hear canvas files machine (ShowJson path) text status =
    IsJsonAnswer files (string_bytes path) text status
IsAnswer may_hear canvas files machine (Page asked) text status =
    IsPageAnswer files asked text status
IsAnswer may_hear canvas files machine (Explain asked) text status =
    IsExplainAnswer files asked text status
IsAnswer may_hear canvas files machine (Answers path) text status =
    IsTableAnswer files (string_bytes path) text status
IsAnswer may_hear canvas files machine (Schema format) text status =
    IsPrinted (schema_text format) text status
IsAnswer may_hear canvas files machine (Completions shell) text status =
    IsPrinted (completions_text shell) text status

-- what went out, which files were replaced, and which new files stay beside those that they were to replace, where that is told
pub record Outputs : Type 0 where
  pub written : Option (List ℕ)
  pub placed : Option (List Placed)
  pub left : Option (List Placed)

abbrev pub outputs : Option (List ℕ) → Option (List Placed) → Option (List Placed) → Outputs
outputs written placed left = record { written = written; placed = placed; left = left }

-- the path that a report goes to, where one is named
abbrev pub out_of : CommandLine → Option (List ℕ)
out_of line = option_map string_bytes line.out

-- this text is all that went out, behind what had gone out before; or where a path is named, nothing did, and the path's file was
-- replaced by one of the text
abbrev pub HasGone : Option (List ℕ) → List ℕ → Outputs → Outputs → Type 0
HasGone None text before after = (after.written ≡ sent before.written text)
    × (after.placed ≡ before.placed) × (after.left ≡ before.left)
HasGone (Some path) text before after = (after.written ≡ before.written)
    × HasReplaced before.placed after.placed path text × (after.left ≡ before.left)

-- the path that a report goes to, where one is named, leads to no file that the command names
abbrev pub SparesBy : Leads → Option (List ℕ) → Asked → Type 0
SparesBy leads None asked = Unit {0}
SparesBy leads (Some path) asked = IsSparing leads asked path

-- nor to its folder of logs
abbrev pub IsApartBy : Leads → Option (List ℕ) → Asked → Type 0
IsApartBy leads None asked = Unit {0}
IsApartBy leads (Some path) asked = MayMiss leads.same (logs_of asked) path

-- the line that was found names a path for its report that leads to a file which its command names
pub record IsRefusedOut (leads : Leads) (matched : Option (Text × List Row)) : Type 0 where
  pub line : CommandLine
  pub asks : IsLineBy matched line
  pub path : List ℕ
  pub out_is : out_of line ≡ Some path
  pub overwrites : IsOverwriting leads line.command path

-- the line that was found was answered so, and that is the exit status
pub record IsDone (may_hear : Hearing) (canvas : Canvas) (files : Files) (machine : Machine)
    (leads : Leads) (matched : Option (Text × List Row)) (before after : Outputs) (code : ℕ) : Type 0 where
  pub line : CommandLine
  pub asks : IsLineBy matched line
  pub text : List ℕ
  pub status : Status
  pub answer : IsAnswer may_hear canvas files machine line.command text status
  pub spares : SparesBy leads (out_of line) line.command
  pub apart : IsApartBy leads (out_of line) line.command
  pub gone : HasGone (out_of line) text before after
  pub code_is : code ≡ code_of status
