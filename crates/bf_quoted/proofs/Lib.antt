mod CharFacts
mod LineFacts
mod ReadFacts
mod SeenFacts
