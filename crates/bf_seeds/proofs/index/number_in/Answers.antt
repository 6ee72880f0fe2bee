use Rattle.std.proofs.Common.{◌≡◌, Some, decimal, sym, ap, ◌∙◌, arith, rules}
use Rattle.std.proofs.lemmas.Fmt.{parse-decimal}
use Rattle.bf_seeds.proofs.index.number_in.Goals as goal

pub returns-in_default-clause-every : goal.returns-in_default-clause-every
returns-in_default-clause-every c = λ n small is.
    absurd (c.in_default.not-Ok n (parse-decimal 32 n c.args.text.now c.parse.result small (omega arith) is c.parse.ensures.value.0))

pub returns-then-ne-clause-every : goal.returns-then-ne-clause-every
returns-then-ne-clause-every c = λ n small is.
    let parsed = parse-decimal 32 n c.args.text.now c.parse.result small (omega arith) is c.parse.ensures.value.0 in
    let same : c.in-Ok.number ≡ n = cc (c.in-Ok.is, parsed) in
    let differs : c.as_bytes.result.now ≡ c.as_bytes-2.result.now → ⊥ = search (rules, c.if-ne.true, c.ne.ensures) in
    absurd (differs (c.as_bytes.ensures.value ∙ c.format.ensures.text ∙ ap decimal same ∙ sym is ∙ sym c.as_bytes-2.ensures.value))

pub returns-clause-every : goal.returns-clause-every
returns-clause-every c = λ n small is.
    let parsed = parse-decimal 32 n c.args.text.now c.parse.result small (omega arith) is c.parse.ensures.value.0 in
    ap Some (cc (c.in-Ok.is, parsed))
