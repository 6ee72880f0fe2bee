use Rattle.std.proofs.Common.{Some, ap, sym, ◌∙◌}
use Rattle.bf_plan.proofs.ListLemmas.{some_same}
use Rattle.bf_report_reader.specs.declared.entry.Entry.TheVariants.{Tried}
use Rattle.bf_report_reader.proofs.Spelled.{own_fields, only_never, only_tried}
use Rattle.bf_report_reader.proofs.entry.entry_in.Goals as goal

pub returns-in_default-clause-every : goal.returns-in_default-clause-every
returns-in_default-clause-every c = λ e says. absurd (c.in_default.ensures.none _ _ _ _ (own_fields e c.args.text.now says.1))

pub returns-in-Some-untried_in-clause-every : goal.returns-in-Some-untried_in-clause-every
returns-in-Some-untried_in-clause-every c = λ e says.
    ap Some (only_never e c.in-Some-untried_in.untried c.args.text.now c.in-Some.index.now c.in-Some.state.now c.in-Some.tries.now c.in-Some.value.now c.in-Some.ensures.some says c.in-Some-untried_in.ensures.some)

pub returns-in_default-index_in-clause-every : goal.returns-in_default-index_in-clause-every
returns-in_default-index_in-clause-every c = λ e says.
    let tried = only_tried e c.args.text.now c.in-Some.index.now c.in-Some.state.now c.in-Some.tries.now c.in-Some.value.now c.in-Some.ensures.some says
    (λ u never. let none = c.in_default-untried_in.ensures.every u never in absurd (cc none)) in
    let none = c.in_default-index_in.ensures.every tried.number tried.at in absurd (cc none)

pub returns-in-Some-2-clause-every : goal.returns-in-Some-2-clause-every
returns-in-Some-2-clause-every c = λ e says.
    let tried = only_tried e c.args.text.now c.in-Some.index.now c.in-Some.state.now c.in-Some.tries.now c.in-Some.value.now c.in-Some.ensures.some says
    (λ u never. let none = c.in_default-untried_in.ensures.every u never in absurd (cc none)) in
    let number = some_same (c.in-Some-index_in.ensures.every tried.number tried.at) in
    let instance = some_same (sym c.in-Some-2.is ∙ c.in_ok-instance.ensures.every tried.instance tried.says) in
    ap Some (ap (λ n. Tried n c.in-Some-2.instance) number ∙ ap (λ r. Tried tried.number r) instance ∙ sym tried.is)

pub returns-in-None-clause-every : goal.returns-in-None-clause-every
returns-in-None-clause-every c = λ e says.
    let tried = only_tried e c.args.text.now c.in-Some.index.now c.in-Some.state.now c.in-Some.tries.now c.in-Some.value.now c.in-Some.ensures.some says
    (λ u never. let none = c.in_default-untried_in.ensures.every u never in absurd (cc none)) in
    let none = sym c.in-None.is ∙ c.in_ok-instance.ensures.every tried.instance tried.says in absurd (cc none)
