-- The cron form: five fields of items, and what a civil minute must be to match.
use Rattle.std.specs.Prelude.{ℕ, ◌/◌, ◌%◌, Bool, ◌&&◌, List, Option, Some, None, ◌<◌, ◌≤◌}
use Rattle.bf_cron.specs.declared.item.Item.{Item}
use Rattle.bf_cron.specs.declared.spec.CronSpec.{CronSpec}
use Rattle.bf_cron.specs.Cron.{IsWordOf, Schedule, Keeps, has_number}

-- both are there and the one stands for the other, or neither is there
abbrev pub Stands : {A B : Type 0} → (A → B → Type 0) → Option A → Option B → Type 0
Stands For None None = Unit {0}
Stands For None (Some b) = ⊥
Stands For (Some a) None = ⊥
Stands For (Some a) (Some b) = For a b

-- the word is that of the field's items, or the text is no field
abbrev pub IsField : Option (List Item) → Option ℕ → Type 0
IsField items word = Stands IsWordOf items word

-- an item has numbers, and steps on
pub record IsItem (i : Item) : Type 0 where
  pub ordered : i.low ≤ i.high
  pub small : i.high < 60
  pub steps : 0 < i.step

-- the same, of five fields
abbrev pub IsSpec : Option Schedule → Option CronSpec → Type 0
IsSpec schedule spec = Stands (λ s c. Keeps c s) schedule spec

-- ---- the same rule over the words

-- the words have the hour and the minute of the m-th minute after midnight
abbrev pub spec_has_time : CronSpec → ℕ → Bool
spec_has_time c m = has_number c.minutes (m % 60) && has_number c.hours (m / 60)
