use Rattle.std.proofs.Common.{option_map}
use Rattle.serde_json.specs.View.{view}
use Rattle.bf_findings.proofs.Told.{each_told, few_told}
use Rattle.bf_findings.proofs.listing.document_findings.Goals as goal

pub returns-clause-each : goal.returns-clause-each
returns-clause-each c = λ graph says.
    each_told graph (option_map (λ s. s.now) c.args.zone_file) (view c.args.value.now) c.in_ok-faults.faults.items c.in_ok-found.found.items says c.in_ok-faults.ensures.each c.in_ok-found.ensures

pub returns-clause-few : goal.returns-clause-few
returns-clause-few c = few_told c.in_ok-faults.faults.items c.in_ok-found.found.items c.in_ok-found.ensures
