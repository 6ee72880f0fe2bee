-- Which field of a text is wrong.
use Rattle.std.specs.Prelude.{ℕ, Bool, if◌then◌else◌, List, [], ◌∷◌, Option, Some, None, is_some}
use Rattle.bf_cron.specs.declared.field.Field.{Field}
use Rattle.bf_cron.specs.declared.field.Field.TheVariants.{Minute, Hour, Day, Month, Weekday}
use Rattle.bf_cron.specs.Cron.{field_of, fields_of, preset}

-- the text says something of the field
abbrev pub is_field_in : Field → List ℕ → Bool
is_field_in field text = is_some (field_of field text)

-- the first of five fields that says nothing
abbrev pub bad_field_in : List (List ℕ) → Option Field
bad_field_in (minute ∷ hour ∷ day ∷ month ∷ weekday ∷ []) =
    if is_field_in Minute minute
    then (if is_field_in Hour hour
    then (if is_field_in Day day
    then (if is_field_in Month month
    then (if is_field_in Weekday weekday then None else Some Weekday)
    else Some Month) else Some Day) else Some Hour) else Some Minute
bad_field_in other = None

-- the first of the five fields of a text that says nothing
abbrev pub bad_field_of : List ℕ → Option Field
bad_field_of text = bad_field_in (fields_of (preset text))
