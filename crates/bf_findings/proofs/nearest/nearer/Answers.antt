use Rattle.std.proofs.Common.{Option, subst}
use Rattle.bf_findings.specs.declared.nearest.Found.{Found}
use Rattle.bf_findings.specs.inner.Nearest.{IsBest}
use Rattle.bf_findings.proofs.Nearness.{first_nearest, now_nearest}
use Rattle.bf_findings.proofs.nearest.nearer.Goals as goal

pub returns-in_default : goal.returns-in_default
returns-in_default c = λ text names is e.
    let P : Option Found → Type 0 = λ best. IsBest text names best in
    now_nearest text names c.in-Some.best.name.now c.args.other.name.now c.in-Some.best.changes c.args.other.changes (subst P c.in-Some.is is) e c.if-best-other.false

pub returns-in_default-2 : goal.returns-in_default-2
returns-in_default-2 c = λ text names is e.
    let P : Option Found → Type 0 = λ best. IsBest text names best in
    first_nearest text names c.args.other.name.now c.args.other.changes (subst P c.in_default.is is) e
