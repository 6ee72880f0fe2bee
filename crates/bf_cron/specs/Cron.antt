-- The cron form: five fields of items, and what a civil minute must be to match.
use Rattle.std.specs.Prelude.{◌≡◌, ℕ, ◌+◌, ◌-◌, ◌*◌, ◌%◌, Bool, ◌&&◌, ◌||◌, not, ◌==◌, nat_le, nat_lt, if◌then◌else◌, List, [], ◌∷◌, length, Option, Some, None, map, filter, position, option_map, codes}
use Rattle.std.specs.Prelude.{◌<◌, Result, Ok, Err}
use Rattle.std.specs.Int.{bit_at}
use Rattle.std.specs.Str.{bytes_eq}
use Rattle.std.specs.List.{slice_split, position_or_len, before_first, after_first, list_any}
use Rattle.std.specs.Char.{to_ascii_lowercase}
use Rattle.bf_cron.specs.declared.field.Field.{Field}
use Rattle.bf_cron.specs.declared.field.Field.TheVariants.{Minute, Hour, Day, Month, Weekday}
use Rattle.bf_cron.specs.declared.item.Item.{Item}
use Rattle.bf_cron.specs.declared.spec.CronSpec.{CronSpec}
use Rattle.bf_cron.specs.declared.spec.CronFault.{CronFault}
use Rattle.bf_cron.specs.declared.spec.CronFault.TheVariants.{Bad, OutOfMemory}
use Rattle.jiff.specs.Types.{Date, DateTime}
use Rattle.jiff.specs.Words.{weekday_of}

-- a space or a tab
abbrev pub is_blank : ℕ → Bool
is_blank c = (c == 32) || (c == 9)

-- the least number of a field
abbrev pub least_of : Field → ℕ
least_of Minute = 0
least_of Hour = 0
least_of Day = 1
least_of Month = 1
least_of Weekday = 0

-- the greatest
abbrev pub greatest_of : Field → ℕ
greatest_of Minute = 59
greatest_of Hour = 23
greatest_of Day = 31
greatest_of Month = 12
greatest_of Weekday = 7

-- a decimal digit's value
abbrev pub digit : ℕ → Option ℕ
digit c = if nat_le 48 c && nat_le c 57 then Some (c - 48) else None

-- the number of two digits
abbrev pub two_digits : Option ℕ → Option ℕ → Option ℕ
two_digits None b = None
two_digits (Some a) None = None
two_digits (Some a) (Some b) = Some (10 * a + b)

-- a number of one or two digits
abbrev pub small_number : List ℕ → Option ℕ
small_number [] = None
small_number (a ∷ []) = digit a
small_number (a ∷ b ∷ []) = two_digits (digit a) (digit b)
small_number (a ∷ b ∷ c ∷ rest) = None

-- the three-letter names of a field, in the order of their numbers
abbrev pub names : Field → List (List ℕ)
names Minute = []
names Hour = []
names Day = []
names Month =
    codes "jan" ∷ codes "feb" ∷ codes "mar" ∷ codes "apr" ∷ codes "may" ∷ codes "jun"
    ∷ codes "jul" ∷ codes "aug" ∷ codes "sep" ∷ codes "oct" ∷ codes "nov" ∷ codes "dec" ∷ []
names Weekday =
    codes "sun" ∷ codes "mon" ∷ codes "tue" ∷ codes "wed" ∷ codes "thu" ∷ codes "fri" ∷ codes "sat"
    ∷ []

-- the number that a name stands for, in any letter case
abbrev pub named : Field → List ℕ → Option ℕ
named f text =
    option_map (λ i. i + least_of f)
    (position (λ name. bytes_eq name (map to_ascii_lowercase text)) (names f))

-- the number, if the field has it
abbrev pub within : Field → Option ℕ → Option ℕ
within f None = None
within f (Some n) = if nat_le (least_of f) n && nat_le n (greatest_of f) then Some n else None

-- what a number or a name stands for
abbrev pub number_of : Field → List ℕ → Option ℕ
number_of f text = if length text == 3 then named f text else within f (small_number text)

-- what stands after the first such byte, where there is one
abbrev pub after : ℕ → List ℕ → Option (List ℕ)
after c text =
    if nat_lt (position_or_len (λ b. b == c) text) (length text)
    then Some (after_first (λ b. b == c) text) else None

-- the number, if it is a step
abbrev pub step_within : Option ℕ → Option ℕ
step_within None = None
step_within (Some n) = if nat_le 1 n && nat_le n 59 then Some n else None

-- a step, which is 1 where none is written
abbrev pub step_of : Option (List ℕ) → Option ℕ
step_of None = Some 1
step_of (Some text) = step_within (small_number text)

-- the numbers between two by a step
abbrev pub item_between : Option ℕ → Option ℕ → Option ℕ → Option Item
item_between None b step = None
item_between (Some a) None step = None
item_between (Some a) (Some b) None = None
item_between (Some a) (Some b) (Some step) =
    if nat_le a b then Some (record { low = a; high = b; step = step }) else None

-- `a`, which has no step, or `a-b` with its step
abbrev pub range_of : Field → List ℕ → Option (List ℕ) → Option (List ℕ) → Option Item
range_of f first None None = item_between (number_of f first) (number_of f first) (Some 1)
range_of f first None (Some step) = None
range_of f first (Some last) step =
    item_between (number_of f first) (number_of f last) (step_of step)

-- `*`, `a` or `a-b`, with what stands behind a `/`
abbrev pub stepped : Field → List ℕ → Option (List ℕ) → Option Item
stepped f base step =
    if bytes_eq base (42 ∷ []) then item_between (Some (least_of f)) (Some (greatest_of f))
    (step_of step)
    else range_of f (before_first (λ b. b == 45) base) (after 45 base) step

-- one item of a field
abbrev pub item_of : Field → List ℕ → Option Item
item_of f text = stepped f (before_first (λ b. b == 47) text) (after 47 text)

-- an item before items, if all were read
abbrev pub with_item : Option Item → Option (List Item) → Option (List Item)
with_item None items = None
with_item (Some i) None = None
with_item (Some i) (Some items) = Some (i ∷ items)

-- the items of the parts, if each is one
abbrev pub items_of : Field → List (List ℕ) → Option (List Item)
items_of f [] = Some []
items_of f (part ∷ parts) = with_item (item_of f part) (items_of f parts)

-- the items of a field, between commas
abbrev pub field_of : Field → List ℕ → Option (List Item)
field_of f text = items_of f (slice_split (λ b. b == 44) text)

-- the item stands for the number
abbrev pub item_has : ℕ → Item → Bool
item_has v i = nat_le i.low v && nat_le v i.high && ((v - i.low) % i.step == 0)

-- some item stands for the number
abbrev pub in_field : List Item → ℕ → Bool
in_field items v = list_any (item_has v) items

-- a word whose bits are the numbers of the items
abbrev pub IsWordOf : List Item → ℕ → Type 0
IsWordOf items word = (v : ℕ) → v < 64 → bit_at word v ≡ (if in_field items v then 1 else 0)

-- a schedule: the items of the five fields, and whether day and weekday are exactly `*`
pub record Schedule : Type 0 where
  pub minutes : List Item
  pub hours : List Item
  pub days : List Item
  pub months : List Item
  pub weekdays : List Item
  pub any_day : Bool
  pub any_weekday : Bool

-- the schedule of the items of five fields, if all were read
abbrev pub schedule_from : (m h d mo w : Option (List Item)) → (any_day any_weekday : Bool)
    → Option Schedule
schedule_from (Some m) (Some h) (Some d) (Some mo) (Some w) any_day any_weekday = Some (record {
  minutes = m;
  hours = h;
  days = d;
  months = mo;
  weekdays = w;
  any_day = any_day;
  any_weekday = any_weekday;
})
schedule_from m h d mo w any_day any_weekday = None

-- the text is exactly `*`
abbrev pub is_star : List ℕ → Bool
is_star text = bytes_eq text (42 ∷ [])

-- the schedule of five fields
abbrev pub schedule_of_fields : List (List ℕ) → Option Schedule
schedule_of_fields (m ∷ h ∷ d ∷ mo ∷ w ∷ []) = schedule_from
    (field_of Minute m) (field_of Hour h) (field_of Day d) (field_of Month mo) (field_of Weekday w)
    (is_star d) (is_star w)
schedule_of_fields other = None

-- the text is not empty
abbrev pub has_bytes : List ℕ → Bool
has_bytes text = not (length text == 0)

-- the parts of a text between spaces and tabs
abbrev pub fields_of : List ℕ → List (List ℕ)
fields_of text = filter has_bytes (slice_split is_blank text)

-- what a preset stands for; of another text, itself
abbrev pub preset : List ℕ → List ℕ
preset text =
    if bytes_eq text (codes "@hourly") then codes "0 * * * *"
    else (if bytes_eq text (codes "@daily") then codes "0 0 * * *"
    else (if bytes_eq text (codes "@weekly") then codes "0 0 * * 0"
    else (if bytes_eq text (codes "@monthly") then codes "0 0 1 * *"
    else (if bytes_eq text (codes "@quarterly") then codes "0 0 1 */3 *"
    else (if bytes_eq text (codes "@yearly") then codes "0 0 1 1 *"
    else text)))))

-- the schedule that a text means
abbrev pub schedule_of : List ℕ → Option Schedule
schedule_of text = schedule_of_fields (fields_of (preset text))

-- a weekday counted from Sunday, which is 0 and 7
abbrev pub on_weekday : Schedule → ℕ → Bool
on_weekday s weekday = in_field s.weekdays weekday || ((weekday == 0) && in_field s.weekdays 7)

-- where day and weekday are both restricted either suffices, else both must match
abbrev pub day_matches : Schedule → ℕ → ℕ → Bool
day_matches s day weekday =
    if not s.any_day && not s.any_weekday
    then in_field s.days day || on_weekday s weekday
    else in_field s.days day && on_weekday s weekday

-- the schedule has the date
abbrev pub date_matches : Schedule → Date → Bool
date_matches s d = in_field s.months d.month && day_matches s d.day ((weekday_of d + 1) % 7)

-- the schedule has the minute
abbrev pub matches : Schedule → DateTime → Bool
matches s dt =
    in_field s.minutes dt.time.minute && in_field s.hours dt.time.hour && date_matches s dt.date

-- the words keep a schedule
pub record Keeps (spec : CronSpec) (s : Schedule) : Type 0 where
  pub minutes : IsWordOf s.minutes spec.minutes
  pub hours : IsWordOf s.hours spec.hours
  pub days : IsWordOf s.days spec.days
  pub months : IsWordOf s.months spec.months
  pub weekdays : IsWordOf s.weekdays spec.weekdays
  pub any_day : spec.any_day ≡ s.any_day
  pub any_weekday : spec.any_weekday ≡ s.any_weekday

-- the text's schedule is kept, or the text has none
abbrev pub IsRead : Option Schedule → Result CronSpec CronFault → Type 0
IsRead (Some s) (Ok spec) = Keeps spec s
IsRead None (Ok spec) = ⊥
IsRead s (Err Bad) = s ≡ None
IsRead s (Err OutOfMemory) = Unit {0}

-- ---- the same rule over the words

-- the word has the number
abbrev pub has_number : ℕ → ℕ → Bool
has_number word v = bit_at word v == 1

-- a weekday counted from Sunday, which is 0 and 7
abbrev pub spec_on_weekday : CronSpec → ℕ → Bool
spec_on_weekday c weekday =
    has_number c.weekdays weekday || ((weekday == 0) && has_number c.weekdays 7)

-- where day and weekday are both restricted either suffices, else both must match
abbrev pub spec_on_day : CronSpec → ℕ → ℕ → Bool
spec_on_day c day weekday =
    if not c.any_day && not c.any_weekday
    then has_number c.days day || spec_on_weekday c weekday
    else has_number c.days day && spec_on_weekday c weekday

-- the words have the date
abbrev pub spec_has_date : CronSpec → Date → Bool
spec_has_date c d = has_number c.months d.month && spec_on_day c d.day ((weekday_of d + 1) % 7)

-- the words have the minute
abbrev pub spec_matches : CronSpec → DateTime → Bool
spec_matches c at =
    has_number c.minutes at.time.minute && has_number c.hours at.time.hour
    && spec_has_date c at.date
