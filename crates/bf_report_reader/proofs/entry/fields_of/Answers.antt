use Rattle.std.proofs.Common.{sym, ◌∙◌}
use Rattle.bf_report_reader.proofs.Splits.{none_stands, cut_once}
use Rattle.bf_report_reader.proofs.entry.fields_of.Goals as goal

pub returns-in_err-state-clause-none : goal.returns-in_err-state-clause-none
returns-in_err-state-clause-none c = rw c.from_residual-in_err-state.ensures (λ index state tries value fields.
    let rest = cut_once 32 c.in_ok-index.index.now index c.in_ok-index.rest.now _ c.in_ok-index.ensures.word fields.0 (sym c.in_ok-index.ensures.some ∙ fields.3) in
    none_stands 32 c.in_ok-index.rest.now state _ c.in_err-state.ensures.none rest.1)

pub returns-in_err-tries-clause-none : goal.returns-in_err-tries-clause-none
returns-in_err-tries-clause-none c = rw c.from_residual-in_err-tries.ensures (λ index state tries value fields.
    let rest = cut_once 32 c.in_ok-index.index.now index c.in_ok-index.rest.now _ c.in_ok-index.ensures.word fields.0 (sym c.in_ok-index.ensures.some ∙ fields.3) in
    let more = cut_once 32 c.in_ok-state.state.now state c.in_ok-state.rest.now _ c.in_ok-state.ensures.word fields.1 (sym c.in_ok-state.ensures.some ∙ rest.1) in
    none_stands 32 c.in_ok-state.rest.now tries _ c.in_err-tries.ensures.none more.1)
