-- Which event comes next: a close, an open, a settle or an expand; or else the try that begins; or else the moment to wait for.
pub use Rattle.bf_due.specs.Steps.{kind_of, IsStep, StandsBefore, IsEarlier, ComesBefore, IsFirstStep, NoStep, IsNextStep}
pub use Rattle.bf_waiting.specs.Choices.{NameComesBefore, IsPreferred, IsFirstTry, NoTry, IsNextTry, IsFirstMoment, IsNextMoment}
