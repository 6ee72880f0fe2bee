use Rattle.std.proofs.lemmas.Str.{IsUtf8-from_ascii}
use Rattle.bf_moment.proofs.moment.MomentDisplay.fmt.Goals as goal

pub unreachable-requires : goal.unreachable-requires
unreachable-requires g c = c.in_default.ensures.cases.0 (IsUtf8-from_ascii _ c.moment_bytes-bytes.ensures.ascii)
