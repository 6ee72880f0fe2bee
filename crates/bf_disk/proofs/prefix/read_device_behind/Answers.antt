use Rattle.std.proofs.Common.{◌++◌, ◌∙◌, ℕ, List, ap, arith}
use Rattle.bf_disk.proofs.OpenedFiles.{begins_otherwise, both_parts, unlike}
use Rattle.bf_disk.proofs.prefix.read_device_behind.Goals as goal

pub returns-then-ne-clause-behind : goal.returns-then-ne-clause-behind
returns-then-ne-clause-behind g c = begins_otherwise c.args.front.now c.in_ok-bytes.bytes.items _ c.in_ok-bytes.ensures.first
    (unlike _ _ _ _ c.ne.ensures c.if-ne.true c.as_slice.ensures.value)

pub returns-clause-behind : goal.returns-clause-behind
returns-clause-behind g c = both_parts c.args.front.now c.in_ok-bytes.bytes.items c.in_ok-rest.rest.items _ 9_223_372_036_854_775_808 _ _ c.in_ok-bytes.ensures.taken c.in_ok-rest.ensures.first (omega (arith, c.in_ok-rest.rest.small, c.in_ok-rest.rest.ok.0, c.in_ok-rest.rest.ok.1)) (c.in_ok-extend_from_slice.ensures.items ∙ ap (λ (t : List ℕ). c.in_ok-bytes.bytes.items ++ t) c.deref.ensures.value)
