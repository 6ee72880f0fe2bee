use Rattle.std.proofs.Common.{◌≡◌, take}
use Rattle.bf_marks.specs.Phrases.{short_moments}
use Rattle.bf_marks.proofs.phrases.short_moment_texts.Given as goal

abbrev pub invariant-loop-moment : goal.invariant-loop-moment
invariant-loop-moment l = l.names.items ≡ short_moments (take l.moment-index l.moments)
