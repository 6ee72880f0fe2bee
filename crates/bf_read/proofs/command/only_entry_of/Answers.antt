use Rattle.std.proofs.Common.{Some, sym, ap, ◌∙◌}
use Rattle.serde_json.specs.View.{view}
use Rattle.bf_read.proofs.CommandLemmas.{only_one, not_one}
use Rattle.bf_read.proofs.command.only_entry_of.Goals as goal

pub returns-then-len-ne1 : goal.returns-then-len-ne1
returns-then-len-ne1 c = sym (not_one c.args.members.now.entries (λ e. c.if-len-ne1.true (c.len.ensures.len ∙ e)))

pub returns : goal.returns
returns c =
    ap (λ s. Some (s, view c.in-Some.value.now)) c.as_str.ensures.value
    ∙ sym (only_one c.args.members.now.entries (c.in-Some.key.now, c.in-Some.value.now) (sym c.len.ensures.len ∙ c.if-len-ne1.false) c.in-Some.ensures.first)
