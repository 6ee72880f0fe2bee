use Rattle.std.proofs.Common.{Some, ap, sym, ◌∙◌}
use Rattle.bf_check.specs.Checking.{number_of}
use Rattle.bf_check.proofs.NumberLemmas.{one_known, one_missing}
use Rattle.bf_check.proofs.edges.numbers_of.Goals as goal

pub returns-in-None : goal.returns-in-None
returns-in-None c = sym (one_missing c.args.ids.now c.args.names.now c.loop-name.name-index c.name-item.result c.loop-name-test.true (ap (number_of c.args.ids.now) (sym (c.as_str.ensures ∙ c.name-item.is)) ∙ sym c.number_of.ensures ∙ c.in-None.is))

pub loop-name-preserved : goal.loop-name-preserved
loop-name-preserved c =
    one_known c.args.ids.now c.args.names.now c.loop-name.numbers.items c.loop-name.name-index c.in-Some.number c.name-item.result c.loop-name-test.true c.loop-name.invariant
    (ap (number_of c.args.ids.now) (sym (c.as_str.ensures ∙ c.name-item.is)) ∙ sym c.number_of.ensures ∙ c.in-Some.is)
    ∙ ap Some (sym c.in_ok-push-in-Some.ensures.items)
