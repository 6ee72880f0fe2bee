use Rattle.std.proofs.Common.{◌≡◌, ◌∷◌, length, option_map, rules}
use Rattle.serde_json.specs.View.{view}
use Rattle.bf_findings.proofs.Lists.{none_found, one_found}
use Rattle.bf_findings.proofs.Told.{finished, next_right, next_wrong, stopped}
use Rattle.bf_findings.specs.Faults.{IsFault, IsWrongAt}
use Rattle.bf_findings.specs.declared.finding.Fault.{Fault}
use Rattle.bf_findings.proofs.judging.Document.add_faults.Goals as goal

pub returns-then-len-gt-MOST_FAULTS : goal.returns-then-len-gt-MOST_FAULTS
returns-then-len-gt-MOST_FAULTS c = λ before are. stopped _ _ _ _ _ (search rules) (c.loop-place.invariant before are)

pub loop-place-preserved-in-Continue-branch-3 : goal.loop-place-preserved-in-Continue-branch-3
loop-place-preserved-in-Continue-branch-3 c = λ before are.
    let file = option_map (λ s. s.now) c.args.self.zone_file in
    let d = view c.args.self.value.now in
    let fault = c.in-Some-2.fault in
    let here : Fault → Type 0 = λ f. f.place ≡ c.in-Some.place in
    let at = one_found here c.in_ok-fault.field-0 fault c.in-Some-2.is c.in_ok-fault.ensures.place in
    let is = one_found (IsFault file d) c.in_ok-fault.field-0 fault c.in-Some-2.is c.in_ok-fault.ensures.some in
    let step : c.loop-place.place-iterator.rest.items ≡ c.in-Some.place ∷ c.next.new.self.rest.items = search rules in
    next_wrong file d _ _ _ c.loop-place.found.items c.push.new.self.items fault c.in-Some.place (search rules) step c.in_ok-push.ensures.items at is (c.loop-place.invariant before are)

pub loop-place-preserved : goal.loop-place-preserved
loop-place-preserved c = λ before are.
    let file = option_map (λ s. s.now) c.args.self.zone_file in
    let d = view c.args.self.value.now in
    let step : c.loop-place.place-iterator.rest.items ≡ c.in-Some.place ∷ c.next.new.self.rest.items = search rules in
    next_right file d _ _ _ c.loop-place.found.items c.in-Some.place (search rules) step (none_found (¬ (IsWrongAt file d c.in-Some.place)) c.in_ok-fault.field-0 (search rules) c.in_ok-fault.ensures.none) (c.loop-place.invariant before are)

pub returns : goal.returns
returns c = λ before are.
    let none_left : length c.loop-place.place-iterator.rest.items ≡ 0 = search rules in
    finished _ _ _ _ _ none_left (c.loop-place.invariant before are)
