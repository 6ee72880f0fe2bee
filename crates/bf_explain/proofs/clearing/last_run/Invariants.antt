use Rattle.std.proofs.Common.{◌≡◌, take}
use Rattle.bf_explain.specs.Clearing.{last_run_of}
use Rattle.bf_explain.proofs.clearing.last_run.Given as goal

abbrev pub invariant-loop-place : goal.invariant-loop-place
invariant-loop-place l = l.last ≡ last_run_of l.run (take l.place-index l.places)
