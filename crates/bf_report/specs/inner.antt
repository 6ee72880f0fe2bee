pub mod LongTexts
