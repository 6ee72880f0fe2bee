mod RowFacts
mod TextFacts
mod FoundFacts
