-- What is told behind a refusal.
use Rattle.std.proofs.Common.{◌≡◌, ◌∙◌, ℕ, List, Option, None, Some, option_map, refl, string_bytes}
use Rattle.bf_command_line.specs.declared.forms.GraphAsked.{GraphAsked}
use Rattle.bf_disk.specs.Files.{IsHeldIfNamed}
use Rattle.bf_input.specs.Inputs.{AreHeld}
use Rattle.bf_command_line.specs.declared.forms.Asked.{Asked}
use Rattle.bf_command_line.specs.declared.forms.Asked.TheVariants.{Check}
use Rattle.bf_command_line.specs.declared.forms.CheckAsked.{CheckAsked}
use Rattle.bf_disk.specs.Files.{Files}
use Rattle.bf_program.specs.Explained.{IsExplained}

-- nothing, where another command stands than `check`
pub unasked : (files : Files) (asked : Asked) (Halted : Type 0) (before : Option (List ℕ)) → ((check : CheckAsked) → asked ≡ Check check → ⊥) → IsExplained files asked Halted before before
unasked files (Check check) Halted before other = absurd (other check refl)
unasked files asked Halted before other = refl

-- what files are told to hold, they are told to hold where each is as it was
module _ (old new : Files) (same : (p : List ℕ) → new p ≡ old p) where
  zone_again : (path zone : Option (List ℕ)) → IsHeldIfNamed old path zone → IsHeldIfNamed new path zone
  zone_again None None held = tt
  zone_again (Some path) (Some zone) held = same path ∙ held
  zone_again None (Some zone) held = absurd held
  zone_again (Some path) None held = absurd held

  pub held_again : (asked : GraphAsked) (graph : List ℕ) (zone : Option (List ℕ)) → AreHeld old asked graph zone → AreHeld new asked graph zone
  held_again asked graph zone held = record {
    graph_held = same (string_bytes asked.graph) ∙ held.graph_held;
    zone_held = zone_again (option_map string_bytes asked.zone_file) zone held.zone_held;
  }
