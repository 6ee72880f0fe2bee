use Rattle.std.proofs.Common.{◌≡◌, sym, ◌∙◌, rules}
use Rattle.bf_report_reader.proofs.Splits.{cut_once}
use Rattle.bf_report_reader.proofs.reading.after_word.Goals as goal

pub returns-else-eq-clause-none : goal.returns-else-eq-clause-none
returns-else-eq-clause-none c = λ plain rest is.
    let differs : c.in_ok-first.first.now ≡ c.args.word.now → ⊥ = search (rules, c.if-eq.false, c.if-eq.ensures) in
    differs (cut_once 32 c.in_ok-first.first.now c.args.word.now c.in_ok-first.rest.now rest c.in_ok-first.ensures.word plain (sym c.in_ok-first.ensures.some ∙ is)).0
