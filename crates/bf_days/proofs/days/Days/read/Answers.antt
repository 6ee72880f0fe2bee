use Rattle.std.proofs.Common.{Some, codes, inr, rules, arith}
use Rattle.std.proofs.lemmas.Str.Pattern.{split_text_parts}
use Rattle.bf_days.specs.declared.days.Days.{Days}
use Rattle.bf_days.specs.Days.{SpellDays}
use Rattle.bf_days.proofs.Reading.{cut_days, if_none, uncut_days}
use Rattle.bf_days.proofs.days.Days.read.Goals as goal

pub returns-in_ok-last-in-Some-clause-found : goal.returns-in_ok-last-in-Some-clause-found
returns-in_ok-last-in-Some-clause-found c = inr (record {
  before = c.in-Some.first.now;
  behind = c.in-Some.last.now;
  parts = split_text_parts (codes "..") c.args.text.now (Some (c.in-Some.first, c.in-Some.last)) c.in-Some.ensures.cases;
  first = first_of (search rules, grind arith);
  last = first_of (search rules, grind arith);
})

pub returns-in_err-first-in-Some-clause-none : goal.returns-in_err-first-in-Some-clause-none
returns-in_err-first-in-Some-clause-none c =
    let text = c.args.text.now in
    let cut = c.in-Some.ensures.cases in
    let P : Type 0 = (days : Days) → SpellDays text days → ⊥ in
    if_none {P = P} c.from_residual.result (λ days s.
    c.in_err-first-in-Some.ensures.none days.first (cut_days text c.in-Some.first.now c.in-Some.last.now cut.0 cut.1 days cut.2 cut.3 cut.4 s).0)

pub returns-in_err-last-in-Some-clause-none : goal.returns-in_err-last-in-Some-clause-none
returns-in_err-last-in-Some-clause-none c =
    let text = c.args.text.now in
    let cut = c.in-Some.ensures.cases in
    let P : Type 0 = (days : Days) → SpellDays text days → ⊥ in
    if_none {P = P} c.from_residual-in_err-last-in-Some.result (λ days s.
    c.in_err-last-in-Some.ensures.none days.last (cut_days text c.in-Some.first.now c.in-Some.last.now cut.0 cut.1 days cut.2 cut.3 cut.4 s).1)

pub returns-in_err-day-in-None-clause-none : goal.returns-in_err-day-in-None-clause-none
returns-in_err-day-in-None-clause-none c =
    let text = c.args.text.now in
    let P : Type 0 = (days : Days) → SpellDays text days → ⊥ in
    if_none {P = P} c.from_residual-in_err-day-in-None.result (λ days s. c.in_err-day-in-None.ensures.none days.first (uncut_days text days c.in-None.ensures.cases s))
