-- Why a rule says so, as it is kept.
use Rattle.std.specs.Prelude.{◌≡◌}
use Rattle.bf_why.specs.declared.since.Ground.{Ground}
use Rattle.bf_why.specs.Since.{Since, because_of_states, words}

abbrev pub IsGround : Since → Ground → Type 0
IsGround (words text) (Ground.Words said) = said.now ≡ text
IsGround (because_of_states states) (Ground.States these) = these ≡ states
IsGround (words text) (Ground.States these) = ⊥
IsGround (because_of_states states) (Ground.Words said) = ⊥
