mod BesideFacts
mod HandFacts
mod IndexFacts
mod SectionFacts
mod StandFacts
mod TaskFacts
