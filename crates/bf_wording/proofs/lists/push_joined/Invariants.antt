use Rattle.std.proofs.Common.{◌≡◌, ◌++◌, drop, string_bytes}
use Rattle.bf_wording.specs.Lists.{behind_first, joined}
use Rattle.bf_wording.proofs.lists.push_joined.Given as goal

abbrev pub invariant-loop-place : goal.invariant-loop-place
invariant-loop-place l = string_bytes l.text ++ behind_first (drop l.place l.rest) ≡ string_bytes l.fn.text ++ joined l.fn.names
