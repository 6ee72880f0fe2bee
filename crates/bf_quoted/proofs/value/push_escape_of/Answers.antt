use Rattle.std.proofs.Common.{◌+◌, ◌/◌, ◌%◌, ◌++◌, ◌∙◌, ap, sym, append_assoc, string_bytes}
use Rattle.std.proofs.lemmas.Bool.{cond-false, le-ltb}
use Rattle.bf_quoted.specs.Values.{escape}
use Rattle.bf_quoted.proofs.value.push_escape_of.Goals as goal

pub returns : goal.returns
returns c =
    let old = string_bytes c.args.text.now in
    let high = escape (0xD7C0 + c.args.c / 1_024) in
    let low = escape (0xDC00 + c.args.c % 1_024) in
    c.in_ok-push_escape-2.ensures ∙ ap (λ t. t ++ low) c.in_ok-push_escape.ensures ∙ append_assoc old high low ∙ ap (λ e. old ++ e) (sym (cond-false _ _ _ (le-ltb c.args.c 65_536 c.if-code-lt65536.false)))
