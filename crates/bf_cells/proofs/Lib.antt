mod RowFacts
mod SafeFacts
