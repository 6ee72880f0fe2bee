use Rattle.std.proofs.Common.{ℕ, List, inl, string_bytes, subst}
use Rattle.bf_device.specs.Device.{HasHalted}
use Rattle.bf_program.specs.CommandFaults.{IsTold}
use Rattle.bf_program.proofs.explaining.tell_findings.Goals as goal

pub returns-in-Ok : goal.returns-in-Ok
returns-in-Ok g c =
    let Halted = HasHalted (g.E.Write.failures c.args.err.now) (g.E.Write.failures c.tell_line.new.err) (g.E.Write.interruptions c.args.err.now) (g.E.Write.interruptions c.tell_line.new.err) in
    let told = subst (λ (line : List ℕ). IsTold Halted (g.E.Write.written c.args.err.now) (g.E.Write.written c.tell_line.new.err) line) c.as_bytes.ensures.value c.tell_line.ensures in
    inl (string_bytes c.in-Ok.text, c.in-Ok.ensures.ok, told)
