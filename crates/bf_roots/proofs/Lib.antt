mod SeenFacts
mod OnwardFacts
mod WalkFacts
