-- Schedules as they are written: items, fields and presets.
use Rattle.std.specs.Prelude.{◌≡◌, ℕ, ◌+◌, ◌*◌, ◌≤◌, ◌==◌, Bool, true, false, List, [], ◌∷◌, ◌++◌, Some, All, filter, codes}
use Rattle.bf_cron.specs.declared.field.Field.{Field}
use Rattle.bf_cron.specs.declared.field.Field.TheVariants.{Minute, Hour, Day, Month, Weekday}
use Rattle.bf_cron.specs.declared.item.Item.{Item}
use Rattle.bf_cron.specs.Cron.{Schedule, least_of, greatest_of, named, is_blank, is_star, has_bytes}

-- a number of one or two digits
pub data IsDecimal : List ℕ → ℕ → Type 0 where
  units : (a : ℕ) → a ≤ 9 → IsDecimal ((48 + a) ∷ []) a
  tens : (a b : ℕ) → a ≤ 9 → b ≤ 9 → IsDecimal ((48 + a) ∷ (48 + b) ∷ []) (10 * a + b)

-- a number or a name of the field
pub data IsNumber (f : Field) (text : List ℕ) (n : ℕ) : Type 0 where
  number : IsDecimal text n → least_of f ≤ n → n ≤ greatest_of f → IsNumber f text n
  name : named f text ≡ Some n → IsNumber f text n

-- a step
abbrev pub IsStep : List ℕ → ℕ → Type 0
IsStep text n = IsDecimal text n × (1 ≤ n) × (n ≤ 59)

-- `*`, `*/n`, `a`, `a-b` and `a-b/n`
pub data IsItemText (f : Field) : List ℕ → Item → Type 0 where
  every : IsItemText f (42 ∷ []) (record { low = least_of f; high = greatest_of f; step = 1 })
  every_nth : (t : List ℕ) (n : ℕ) → IsStep t n
      → IsItemText f (42 ∷ 47 ∷ t) (record { low = least_of f; high = greatest_of f; step = n })
  one : (t : List ℕ) (a : ℕ) → IsNumber f t a
      → IsItemText f t (record { low = a; high = a; step = 1 })
  span : (s t : List ℕ) (a b : ℕ) → IsNumber f s a → IsNumber f t b → a ≤ b
      → IsItemText f (s ++ 45 ∷ t) (record { low = a; high = b; step = 1 })
  span_nth : (s t u : List ℕ) (a b n : ℕ) → IsNumber f s a → IsNumber f t b → a ≤ b → IsStep u n
      → IsItemText f (s ++ 45 ∷ t ++ 47 ∷ u) (record { low = a; high = b; step = n })

-- no byte of the text is one of these
abbrev pub Lacks : (ℕ → Bool) → List ℕ → Type 0
Lacks these text = All (λ c. these c ≡ false) text

-- the parts of a text between the bytes that are one of these
pub data AreParts (these : ℕ → Bool) : List ℕ → List (List ℕ) → Type 0 where
  last : (t : List ℕ) → Lacks these t → AreParts these t (t ∷ [])
  next : (t : List ℕ) (c : ℕ) (rest : List ℕ) (parts : List (List ℕ)) → Lacks these t → these c
      ≡ true → AreParts these rest parts → AreParts these (t ++ c ∷ rest) (t ∷ parts)

-- each text is written as the item at its place
pub data AreItemTexts (f : Field) : List (List ℕ) → List Item → Type 0 where
  none : AreItemTexts f [] []
  more : (t : List ℕ) (i : Item) (texts : List (List ℕ)) (items : List Item) → IsItemText f t i
      → AreItemTexts f texts items → AreItemTexts f (t ∷ texts) (i ∷ items)

-- items between commas
pub record IsFieldText (f : Field) (text : List ℕ) (items : List Item) : Type 0 where
  pub parts : List (List ℕ)
  pub cut : AreParts (λ c. c == 44) text parts
  pub each : AreItemTexts f parts items

-- five fields with spaces and tabs between them and at both ends
pub record IsFiveFields (text : List ℕ) (s : Schedule) : Type 0 where
  pub parts : List (List ℕ)
  pub cut : AreParts is_blank text parts
  pub minute : List ℕ
  pub hour : List ℕ
  pub day : List ℕ
  pub month : List ℕ
  pub weekday : List ℕ
  pub five : filter has_bytes parts ≡ minute ∷ hour ∷ day ∷ month ∷ weekday ∷ []
  pub minutes : IsFieldText Minute minute s.minutes
  pub hours : IsFieldText Hour hour s.hours
  pub days : IsFieldText Day day s.days
  pub months : IsFieldText Month month s.months
  pub weekdays : IsFieldText Weekday weekday s.weekdays
  pub any_day : s.any_day ≡ is_star day
  pub any_weekday : s.any_weekday ≡ is_star weekday

-- Airflow's presets, and the fields that they stand for
pub data IsPreset : List ℕ → List ℕ → Type 0 where
  hourly : IsPreset (codes "@hourly") (codes "0 * * * *")
  daily : IsPreset (codes "@daily") (codes "0 0 * * *")
  weekly : IsPreset (codes "@weekly") (codes "0 0 * * 0")
  monthly : IsPreset (codes "@monthly") (codes "0 0 1 * *")
  quarterly : IsPreset (codes "@quarterly") (codes "0 0 1 */3 *")
  yearly : IsPreset (codes "@yearly") (codes "0 0 1 1 *")

-- five fields, or a preset
pub data IsScheduleText (text : List ℕ) (s : Schedule) : Type 0 where
  fields : IsFiveFields text s → IsScheduleText text s
  preset_of : (meant : List ℕ) → IsPreset text meant → IsFiveFields meant s → IsScheduleText text s
