use Rattle.std.proofs.Common.{[], ◌∷◌, get_or, take}
use Rattle.std.specs.Fmt.{HasWritten, IsPlainFormatter}
use Rattle.std.specs.List.{join_with_byte}
use Rattle.bf_check.proofs.fault.SpacedDisplay.fmt.Given as goal

abbrev pub invariant-loop-text : goal.invariant-loop-text
invariant-loop-text g l =
    IsPlainFormatter l.fn.f → HasWritten g.W.Write.write_str_gives l.fn.f (join_with_byte 32 (get_or l.self.0.now 0 [] ∷ take l.text-index l.rest)) l.f
