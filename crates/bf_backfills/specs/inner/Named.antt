-- What a line names to be cleared.
use Rattle.std.specs.Prelude.{◌≡◌, ◌⊎◌, ℕ, List, IfSome, Option, Some, None, string_bytes}
use Rattle.bf_command_line.specs.declared.forms.ClearedAsked.{ClearedAsked}
use Rattle.bf_command_line.specs.declared.forms.ClearedAsked.TheVariants as cleared
use Rattle.bf_command_line.specs.declared.forms.RangeAsked.{RangeAsked}
use Rattle.bf_command_fault.specs.declared.fault.CommandFault.{CommandFault}
use Rattle.bf_command_fault.specs.declared.fault.CommandFault.TheVariants.{BadMoment, OutOfMemory}
use Rattle.bf_commands.specs.declared.cleared.ToClear.{ToClear}
use Rattle.bf_commands.specs.declared.cleared.ToClear.TheVariants as to_clear
use Rattle.bf_disk.specs.Files.{Files}
use Rattle.bf_disk.specs.Source.{IsWholeUpTo}
use Rattle.bf_backfills.specs.declared.named.UnreadToClear.{UnreadToClear}
use Rattle.bf_backfills.specs.declared.named.UnreadToClear.TheVariants as named
use Rattle.bf_planning.specs.declared.range.RunRange.{RunRange}
use Rattle.bf_backfills.specs.Commands.{HasNoMoment, IsNoStarts, MeanSeeds, MeansRange}

-- ---- before a file is read

-- the texts mean this
abbrev pub MeansNamed : ClearedAsked → UnreadToClear → Type 0
MeansNamed (cleared.Seeds asked) (named.Seeds seeds) = MeanSeeds asked.items seeds.items
MeansNamed (cleared.File path) (named.File same) = string_bytes same ≡ string_bytes path
MeansNamed cleared.Failed named.Failed = Unit {0}
MeansNamed cleared.Nothing named.Nothing = Unit {0}
MeansNamed _ _ = ⊥

-- the path of the file, where one is named
abbrev pub path_of : UnreadToClear → Option (List ℕ)
path_of (named.File path) = Some (string_bytes path)
path_of _ = None

-- a text means no moment, where this says so; or memory is wanting
abbrev pub IsUnmeant : Type 0 → CommandFault → Type 0
IsUnmeant HasNone BadMoment = HasNone
IsUnmeant HasNone OutOfMemory = Unit {0}
IsUnmeant HasNone fault = ⊥

-- the texts mean no range, or one of them no moment; or memory is wanting, and they mean a range
abbrev pub IsFaultOfTextsAsked : RangeAsked → ClearedAsked → CommandFault → Type 0
IsFaultOfTextsAsked range cleared BadMoment = IsNoStarts range.starts ⊎ HasNoMoment cleared
IsFaultOfTextsAsked range cleared OutOfMemory = (meant : RunRange) × MeansRange range meant
IsFaultOfTextsAsked range cleared fault = ⊥

-- ---- and where it was read

-- this is to be cleared, by the file's bytes where one is named
abbrev pub IsReadFor : Files → UnreadToClear → ToClear → Type 0
IsReadFor files (named.Seeds seeds) (to_clear.Seeds same) = same ≡ seeds
IsReadFor files (named.File path) (to_clear.File bytes) =
    IfSome (files (string_bytes path)) (λ held. IsWholeUpTo 8_388_608 held bytes.items)
IsReadFor files named.Failed to_clear.Failed = Unit {0}
IsReadFor files named.Nothing to_clear.Nothing = Unit {0}
IsReadFor files _ _ = ⊥
