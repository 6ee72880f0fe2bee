use Rattle.std.proofs.lemmas.Str.{IsUtf8-from_ascii}
use Rattle.bf_wording.proofs.moments.short_moment.Goals as goal

pub unreachable-requires : goal.unreachable-requires
unreachable-requires c = c.in_default.ensures.cases.0 (IsUtf8-from_ascii _ c.without_midnight.ensures.ascii)
