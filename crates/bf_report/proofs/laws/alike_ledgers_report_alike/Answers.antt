use Rattle.std.proofs.Common.{◌≡◌, subst}
use Rattle.std.specs.FinMap as finite
use Rattle.bf_core.proofs.Confluence.{tries_same}
use Rattle.bf_report.specs.Dated.{IsDated}
use Rattle.bf_report.proofs.DatedFacts.{dated_once}
use Rattle.bf_report.proofs.laws.alike_ledgers_report_alike.Goals as goal

pub returns : goal.returns
returns c = λ dag sound intervals one two first second alike report other is also.
    let same : one ≡ two = tries_same dag sound _ one two first second alike in
    (same, dated_once dag intervals (finite.get two) report other (subst (λ l. IsDated dag intervals (finite.get l) report) same is) also)
