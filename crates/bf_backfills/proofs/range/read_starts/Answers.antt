use Rattle.std.proofs.Common.{ℕ, List, string_bytes, refl, sym, subst}
use Rattle.bf_days.specs.Days.{SpellDays}
use Rattle.bf_days.specs.declared.days.Days.{Days}
use Rattle.bf_backfills.specs.Commands.{IsNoStarts}
use Rattle.bf_backfills.proofs.range.read_starts.Goals as goal

pub returns-in-None-clause-bad : goal.returns-in-None-clause-bad
returns-in-None-clause-bad c =
    let none : (days : Days) → SpellDays (string_bytes c.in-On.text) days → ⊥ = subst (λ (t : List ℕ). (days : Days) → SpellDays t days → ⊥) c.as_str-in-On.ensures.value c.in-None.ensures.none in
    (refl, subst IsNoStarts (sym c.in-On.is) none)
