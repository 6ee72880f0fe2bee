use Rattle.std.proofs.Common.{sym, subst}
use Rattle.bf_planning.proofs.Results.{handed_on}
use Rattle.bf_backfills.specs.Commands.{HasNoMoment}
use Rattle.bf_backfills.specs.inner.Named.{IsUnmeant}
use Rattle.bf_backfills.proofs.named.to_clear_asked.Goals as goal

pub returns-in_err-read_seeds-in-Seeds-clause-bad : goal.returns-in_err-read_seeds-in-Seeds-clause-bad
returns-in_err-read_seeds-in-Seeds-clause-bad c =
    let fault = c.in_err-read_seeds-in-Seeds.field-0.0 in
    handed_on _ _ c.from_residual.ensures.1 (subst (λ asked. IsUnmeant (HasNoMoment asked) fault) (sym c.in-Seeds.is) (rw (c.as_slice.ensures.value) at c.in_err-read_seeds-in-Seeds.ensures.bad))
