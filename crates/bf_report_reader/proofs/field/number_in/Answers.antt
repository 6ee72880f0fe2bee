use Rattle.std.proofs.Common.{◌≡◌, ◌<◌, ◌^◌, ℕ, List, Some, decimal, sym, ap, ◌∙◌, subst, arith, rules}
use Rattle.std.specs.Str.{IsUtf8}
use Rattle.std.proofs.lemmas.Fmt.{IsAscii-decimal, parse-decimal}
use Rattle.std.proofs.lemmas.Str.{IsUtf8-from_ascii}
use Rattle.bf_report_reader.proofs.field.number_in.Goals as goal

utf8 : (n : ℕ) (text : List ℕ) → n < 2 ^ 32 → text ≡ decimal n → IsUtf8 text
utf8 n text small is = subst IsUtf8 (sym is) (IsUtf8-from_ascii (decimal n) (IsAscii-decimal n (omega arith)))

pub returns-in_default-from_utf8-clause-every : goal.returns-in_default-from_utf8-clause-every
returns-in_default-from_utf8-clause-every c = λ n small is. absurd (c.in_default-from_utf8.ensures.cases.0 (utf8 n c.args.text.now small is))

pub returns-in_default-parse-clause-every : goal.returns-in_default-parse-clause-every
returns-in_default-parse-clause-every c = λ n small is.
    absurd (c.in_default-parse.not-Ok n (parse-decimal 32 n c.in-Ok.digits.now c.parse.result small (omega arith) (c.in-Ok.ensures.cases.0 ∙ is) c.parse.ensures.value.0))

pub returns-then-ne-clause-every : goal.returns-then-ne-clause-every
returns-then-ne-clause-every c = λ n small is.
    let parsed = parse-decimal 32 n c.in-Ok.digits.now c.parse.result small (omega arith) (c.in-Ok.ensures.cases.0 ∙ is) c.parse.ensures.value.0 in
    let same : c.in-Ok-parse.number ≡ n = cc (c.in-Ok-parse.is, parsed) in
    let differs : c.as_bytes.result.now ≡ c.args.text.now → ⊥ = search (rules, c.if-ne.true, c.ne.ensures) in
    absurd (differs (c.as_bytes.ensures.value ∙ c.format.ensures.text ∙ ap decimal same ∙ sym is))

pub returns-clause-every : goal.returns-clause-every
returns-clause-every c = λ n small is.
    let parsed = parse-decimal 32 n c.in-Ok.digits.now c.parse.result small (omega arith) (c.in-Ok.ensures.cases.0 ∙ is) c.parse.ensures.value.0 in
    ap Some (cc (c.in-Ok-parse.is, parsed))
