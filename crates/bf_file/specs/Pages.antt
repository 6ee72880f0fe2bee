-- What is written to a new file.
use Rattle.std.specs.Prelude.{◌≡◌, ℕ, List, Option, None, Some, option_map}
use Rattle.bf_file.specs.declared.call.Call.{Call}
use Rattle.bf_file.specs.declared.call.Placed.{Placed}
use Rattle.bf_file.specs.declared.fault.PlaceFault.{PlaceFault}
use Rattle.bf_file.specs.Replacing.{HasLeft, HasReplaced, text_by}

-- what contracts see of a page: the calls that were made of its file and went well, where it tells them, and how often a write failed
pub record Paged : Type 0 where
  pub calls : Option (List Call)
  pub failures : ℕ

-- what was written to it, where it is told
abbrev pub text_on : Paged → Option (List ℕ)
text_on page = option_map text_by page.calls

-- this path was given a file of the text, where they are told
abbrev pub HasReplacedBy : Option (List Placed) → Option (List Placed) → Option (List ℕ)
    → Option (List ℕ) → Type 0
HasReplacedBy before after (Some path) (Some text) = HasReplaced before after path text
HasReplacedBy before after (Some path) None = Unit {0}
HasReplacedBy before after None text = Unit {0}

-- the new file of the text stays whole under the name that the fault has, and where the text isn't told, that isn't from then on; or none
-- stays
abbrev pub HasLeftBy : Option (List Placed) → Option (List Placed) → PlaceFault → Option (List ℕ)
    → Type 0
HasLeftBy before after (PlaceFault.Lost fault) text = after ≡ before
HasLeftBy before after (PlaceFault.Left name) (Some text) = HasLeft before after name text
HasLeftBy before after (PlaceFault.Left name) None = after ≡ None
