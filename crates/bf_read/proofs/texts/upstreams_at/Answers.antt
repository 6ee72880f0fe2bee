use Rattle.std.proofs.Common.{sym, subst}
use Rattle.bf_value.specs.Distinct.{AreDistinct}
use Rattle.bf_read.proofs.DistinctLemmas.{distinct_AreDistinct}
use Rattle.bf_read.proofs.texts.upstreams_at.Goals as goal

pub returns-clause-distinct : goal.returns-clause-distinct
returns-clause-distinct c = subst AreDistinct (sym c.in_ok-distinct_texts.ensures) (distinct_AreDistinct _)
