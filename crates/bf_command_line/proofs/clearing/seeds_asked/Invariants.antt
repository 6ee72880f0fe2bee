use Rattle.std.proofs.Common.{◌≡◌, ℕ, length, Some}
use Rattle.std.specs.Prelude.{slice_get}
use Rattle.clap.specs.Words.{found_of, rows_of}
use Rattle.bf_command_line.specs.declared.forms.SeedAsked.{SeedAsked}
use Rattle.bf_command_line.specs.Asked.{IsSeedAt}
use Rattle.bf_command_line.proofs.clearing.seeds_asked.Given as goal

abbrev pub invariant-loop-place : goal.invariant-loop-place
invariant-loop-place l = (length l.seeds.items ≡ l.place) × ((k : ℕ) (seed : SeedAsked) → slice_get l.seeds.items k ≡ Some seed → IsSeedAt (rows_of (found_of l.matches)) k seed)
