use Rattle.std.proofs.Common.{rules}
use Rattle.bf_findings.proofs.listing.refusal.Goals as goal

pub returns : goal.returns
returns c = c.in_ok-refusal_of_check-in-Err-check.ensures _ (c.in-Ok.draft, c.in-Ok.ensures, c.in-Err-check.ensures.fault, search rules)
