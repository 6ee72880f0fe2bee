pub mod WeightFacts
