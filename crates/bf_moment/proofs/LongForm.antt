-- The texts of the long form are those of moments.
use Rattle.std.proofs.Common.{◌≡◌, ℕ, ℤ, List, length, true, refl, sym, ap, ◌∙◌, subst, inl, inr, arith}
use Rattle.jiff_core.specs.declared.civil.datetime.DateTime.{DateTime}
use Rattle.jiff.specs.Words.{civil_nanos}
use Rattle.bf_moment.specs.Moment.{IsShown, IsWhole, Spells, moment_text}
use Rattle.bf_moment.specs.inner.Clock.{SpellsClock}
use Rattle.bf_moment.specs.Long.{is_long, IsTextOfMoment}
use Rattle.bf_moment.proofs.MomentFacts.{shown_date, moment_text_of_clock}
use Rattle.bf_moment.proofs.ClockFacts.{clock_of, spells_moment}
use Rattle.bf_moment.proofs.LongFacts.{clock_is_long, clock_of_long, long_length}

-- a text of 20 bytes is no date alone
by_text : (text : List ℕ) (n : ℤ) → length text ≡ 20 → Spells text n → IsTextOfMoment text
by_text text n len spells = elim spells.text [
  | inl is ↦ record { moment = n; shown = spells.shown; whole = spells.whole; is_text = is }
  | inr w ↦ let short : length text ≡ 10 = ap length w.1 in absurd (omega (arith, short, len))
]

pub moment_of_long : (text : List ℕ) → is_long text ≡ true → IsTextOfMoment text
moment_of_long text long =
    let clock = clock_of_long text long in
    by_text text (civil_nanos clock.0) (long_length text long) (spells_moment text text clock.0 refl clock.1)

pub long_of_moment : (text : List ℕ) → IsTextOfMoment text → is_long text ≡ true
long_of_moment text of =
    let clock = clock_of of.moment of.shown in
    let year = shown_date clock.0 of.moment clock.1 of.shown in
    subst (λ t. is_long t ≡ true) (sym (of.is_text ∙ moment_text_of_clock clock.0 of.moment clock.1 year)) (clock_is_long clock.0 year)
