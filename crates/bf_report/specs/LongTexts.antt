-- Texts in which a long word that comes again is held once.
use Rattle.std.specs.Prelude.{◌≡◌, ◌≤◌, ◌<◌, ◌-◌, ◌^◌, ℕ, List, [], ◌∷◌, ◌++◌, length, take, drop}
use Rattle.std.specs.List.{All}
use Rattle.bf_value.specs.Json.{json_of}
use Rattle.bf_report.specs.declared.long_text.Again.{Again}
use Rattle.bf_report.specs.declared.long_text.Shown.{Shown}

-- these of the held bytes
abbrev pub stretch : List ℕ → ℕ → ℕ → List ℕ
stretch held from to = take (to - from) (drop from held)

-- the text from a place of the held bytes on
abbrev pub text_from : List ℕ → ℕ → List Again → List ℕ
text_from held place [] = drop place held
text_from held place (again ∷ rest) =
    stretch held place again.at
    ++ (stretch held again.from again.to ++ text_from held again.at rest)

-- what comes again is among the first bytes, so many, and comes in order from a place of them on
abbrev pub AreWithin : ℕ → ℕ → List Again → Type 0
AreWithin place size [] = place ≤ size
AreWithin place size (again ∷ rest) =
    (place ≤ again.at) × (again.from ≤ again.to) × (again.to ≤ size) × AreWithin again.at size rest

-- the value's word is held where it is said to be
pub record IsShownIn (held : List ℕ) (shown : Shown) : Type 0 where
  pub rises : shown.from ≤ shown.to
  pub within : shown.to ≤ length held
  pub is_word : stretch held shown.from shown.to ≡ json_of shown.value.now

-- what comes again is held, and all bytes of the text are counted
pub record IsLongText (held : List ℕ) (again : List Again) (shown : List Shown) (bytes : ℕ) : Type 0 where
  pub within : AreWithin 0 (length held) again
  pub are_shown : All (IsShownIn held) shown
  pub counted : bytes ≡ length (text_from held 0 again)
  pub fits : bytes < 2 ^ 64
