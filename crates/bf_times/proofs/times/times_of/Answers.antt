use Rattle.std.proofs.Common.{◌∙◌, ◌-◌, length, take, drop, string_bytes, subst, sym, ap}
use Rattle.std.specs.FinMap as map
use Rattle.bf_times.specs.Times.{HasHead, IsTextOf}
use Rattle.bf_times.proofs.Ends.{beyond, is_found, passed_up}
use Rattle.bf_times.proofs.times.times_of.Goals as goal

pub returns-in_err-found-clause-err : goal.returns-in_err-found-clause-err
returns-in_err-found-clause-err c =
    let dag = c.args.plan.now.dag in
    let has : HasHead dag c.args.runs.now c.args.bytes.now c.in-Some.head.now = record { is_first = sym c.in-Some.ensures; is_own = sym c.in_ok-is_head.ensures ∙ c.if-not-branch.false } in
    passed_up dag c.args.runs.now c.args.bytes.now c.in-Some.head.now has _ _ c.from_residual-in_err-found.ensures.1 c.in_err-found.ensures.refused

pub returns-clause-ok : goal.returns-clause-ok
returns-clause-ok c =
    let dag = c.args.plan.now.dag in
    let bytes = c.args.bytes.now in
    let head = c.in-Some.head.now in
    let found = c.in_ok-found.found in
    let count = c.max-whole.ensures in
    record {
      head = head;
      has_head = record { is_first = sym c.in-Some.ensures; is_own = sym c.in_ok-is_head.ensures ∙ c.if-not-branch.false };
      whole = found.whole;
      tries = map.get found.tries;
      found = is_found dag c.args.runs.now bytes head found.whole (map.get found.tries) c.in_ok-found.ensures.begun c.in_ok-found.ensures.whole;
      is = subst (λ n. IsTextOf (take n (drop (length head) bytes)) (string_bytes c.in_ok-text_of_times.field-0)) (ap (λ n. n - length head) count ∙ beyond found.whole (length head)) c.in_ok-text_of_times.ensures;
    }
