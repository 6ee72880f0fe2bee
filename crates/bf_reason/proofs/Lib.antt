mod CauseFacts
mod LetterFacts
mod LetterSteps
mod OwnReports
mod ReasonFacts
