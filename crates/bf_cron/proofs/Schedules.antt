-- What is read as a schedule is written as one, and the other way round.
use Rattle.std.proofs.Common.{◌≡◌, ℕ, ◌==◌, Bool, true, false, cond, List, [], ◌∷◌, Option, Some, None, filter, codes, refl, ap, ◌∙◌, sym, subst, ◌⊎◌, inl, inr}
use Rattle.std.specs.Str.{bytes_eq}
use Rattle.std.specs.List.{slice_split}
use Rattle.std.proofs.lemmas.Slice.Eq.{bytes_eq-Decides}
use Rattle.bf_cron.specs.declared.field.Field.{Field}
use Rattle.bf_cron.specs.declared.field.Field.TheVariants.{Minute, Hour, Day, Month, Weekday}
use Rattle.bf_cron.specs.declared.item.Item.{Item}
use Rattle.bf_cron.specs.Cron.{Schedule, item_of, items_of, with_item, field_of, is_blank, is_star, has_bytes, fields_of, schedule_from, schedule_of_fields, preset, schedule_of}
use Rattle.bf_cron.specs.Grammar.{AreItemTexts, none, more, AreParts, IsFieldText, IsFiveFields, IsPreset, hourly, daily, weekly, monthly, quarterly, yearly, IsScheduleText, fields, preset_of}
use Rattle.bf_cron.proofs.Forms.{read_is_written}
use Rattle.bf_cron.proofs.Written.{written_is_read}
use Rattle.bf_cron.proofs.Parts.{parts_are, split_is}

-- ---- fields

record Pushed (i : Option Item) (rest : Option (List Item)) (items : List Item) : Type 0 where
  first : Item
  others : List Item
  is_first : i ≡ Some first
  is_rest : rest ≡ Some others
  is : first ∷ others ≡ items

pushed : (i : Option Item) (rest : Option (List Item)) (items : List Item) → with_item i rest ≡ Some items → Pushed i rest items
pushed None rest items e = absurd (cc)
pushed (Some i) None items e = absurd (cc)
pushed (Some i) (Some others) items e = record { first = i; others = others; is_first = refl; is_rest = refl; is = cc }

empty : (items : List Item) → Some [] ≡ Some items → [] ≡ items
empty items e = cc

items_written : (f : Field) (parts : List (List ℕ)) (items : List Item) → items_of f parts ≡ Some items → AreItemTexts f parts items
items_written f [] items e = subst (AreItemTexts f []) (empty items e) none
items_written f (part ∷ parts) items e =
    let w = pushed (item_of f part) (items_of f parts) items e in
    subst (AreItemTexts f (part ∷ parts)) w.is (more part w.first parts w.others (read_is_written f part w.first w.is_first) (items_written f parts w.others w.is_rest))

items_read : (f : Field) (parts : List (List ℕ)) (items : List Item) → AreItemTexts f parts items → items_of f parts ≡ Some items
items_read f parts items none = refl
items_read f parts items (more t i texts others w ws) = λ j. with_item (written_is_read f t i w j) (items_read f texts others ws j)

field_written : (f : Field) (text : List ℕ) (items : List Item) → field_of f text ≡ Some items → IsFieldText f text items
field_written f text items e = record {
  parts = slice_split (λ c. c == 44) text;
  cut = split_is (λ c. c == 44) text;
  each = items_written f (slice_split (λ c. c == 44) text) items e;
}

pub field_read : (f : Field) (text : List ℕ) (items : List Item) → IsFieldText f text items → field_of f text ≡ Some items
field_read f text items w = ap (items_of f) (parts_are (λ c. c == 44) text w.parts w.cut) ∙ items_read f w.parts items w.each

-- ---- five fields

record AreRead (m h d mo w : Option (List Item)) (any_day any_weekday : Bool) (s : Schedule) : Type 0 where
  minutes : m ≡ Some s.minutes
  hours : h ≡ Some s.hours
  days : d ≡ Some s.days
  months : mo ≡ Some s.months
  weekdays : w ≡ Some s.weekdays
  is_any_day : s.any_day ≡ any_day
  is_any_weekday : s.any_weekday ≡ any_weekday

pub some_injective : {A : Type 0} (x y : A) → Some x ≡ Some y → x ≡ y
some_injective x y e = cc

are_read : (m h d mo w : Option (List Item)) (any_day any_weekday : Bool) (s : Schedule) → schedule_from m h d mo w any_day any_weekday ≡ Some s → AreRead m h d mo w any_day any_weekday s
are_read (Some m) (Some h) (Some d) (Some mo) (Some w) any_day any_weekday s e =
    let is = some_injective (record { minutes = m; hours = h; days = d; months = mo; weekdays = w; any_day = any_day; any_weekday = any_weekday }) s e in
    record {
      minutes = ap (λ t. Some t.minutes) is;
      hours = ap (λ t. Some t.hours) is;
      days = ap (λ t. Some t.days) is;
      months = ap (λ t. Some t.months) is;
      weekdays = ap (λ t. Some t.weekdays) is;
      is_any_day = sym (ap (λ t. t.any_day) is);
      is_any_weekday = sym (ap (λ t. t.any_weekday) is);
    }
are_read m h d mo w any_day any_weekday s e = absurd (cc)

five_written : (text : List ℕ) (parts kept : List (List ℕ)) (s : Schedule) → AreParts is_blank text parts → filter has_bytes parts ≡ kept → schedule_of_fields kept ≡ Some s → IsFiveFields text s
five_written text parts (m ∷ h ∷ d ∷ mo ∷ w ∷ []) s cut five e =
    let read = are_read (field_of Minute m) (field_of Hour h) (field_of Day d) (field_of Month mo) (field_of Weekday w) (is_star d) (is_star w) s e in
    record {
      parts = parts;
      cut = cut;
      minute = m;
      hour = h;
      day = d;
      month = mo;
      weekday = w;
      five = five;
      minutes = field_written Minute m s.minutes read.minutes;
      hours = field_written Hour h s.hours read.hours;
      days = field_written Day d s.days read.days;
      months = field_written Month mo s.months read.months;
      weekdays = field_written Weekday w s.weekdays read.weekdays;
      any_day = read.is_any_day;
      any_weekday = read.is_any_weekday;
    }
five_written text parts kept s cut five e = absurd (cc)

five_read : (text : List ℕ) (s : Schedule) → IsFiveFields text s → schedule_of_fields (fields_of text) ≡ Some s
five_read text s w =
    ap schedule_of_fields (ap (filter has_bytes) (parts_are is_blank text w.parts w.cut) ∙ w.five)
    ∙ (λ j. schedule_from
    (field_read Minute w.minute s.minutes w.minutes j)
    (field_read Hour w.hour s.hours w.hours j)
    (field_read Day w.day s.days w.days j)
    (field_read Month w.month s.months w.months j)
    (field_read Weekday w.weekday s.weekdays w.weekdays j)
    (sym w.any_day j)
    (sym w.any_weekday j))

fields_written : (text : List ℕ) (s : Schedule) → schedule_of_fields (fields_of text) ≡ Some s → IsFiveFields text s
fields_written text s e = five_written text (slice_split is_blank text) (fields_of text) s (split_is is_blank text) refl e

-- ---- presets

preset_or : (b : Bool) (text name meant other : List ℕ) → (b ≡ true → text ≡ name) → IsPreset name meant → (other ≡ text) ⊎ IsPreset text other → (cond b meant other ≡ text) ⊎ IsPreset text (cond b meant other)
preset_or true text name meant other same is rest = inr (subst (λ t. IsPreset t meant) (sym (same refl)) is)
preset_or false text name meant other same is rest = rest

named : (text name : List ℕ) → bytes_eq text name ≡ true → text ≡ name
named text name e = (bytes_eq-Decides text name).0 e

-- a text is a preset, or stands for itself
preset_is : (text : List ℕ) → (preset text ≡ text) ⊎ IsPreset text (preset text)
preset_is text =
    preset_or (bytes_eq text (codes "@hourly")) text _ _ _ (named text _) hourly
    (preset_or (bytes_eq text (codes "@daily")) text _ _ _ (named text _) daily
    (preset_or (bytes_eq text (codes "@weekly")) text _ _ _ (named text _) weekly
    (preset_or (bytes_eq text (codes "@monthly")) text _ _ _ (named text _) monthly
    (preset_or (bytes_eq text (codes "@quarterly")) text _ _ _ (named text _) quarterly
    (preset_or (bytes_eq text (codes "@yearly")) text _ _ text (named text _) yearly (inl refl))))))

preset_meant : (text meant : List ℕ) → IsPreset text meant → preset text ≡ meant
preset_meant text meant hourly = refl
preset_meant text meant daily = refl
preset_meant text meant weekly = refl
preset_meant text meant monthly = refl
preset_meant text meant quarterly = refl
preset_meant text meant yearly = refl

-- a preset is no five fields
preset_alone : (text meant : List ℕ) → IsPreset text meant → schedule_of_fields (fields_of text) ≡ None
preset_alone text meant hourly = refl
preset_alone text meant daily = refl
preset_alone text meant weekly = refl
preset_alone text meant monthly = refl
preset_alone text meant quarterly = refl
preset_alone text meant yearly = refl

-- ---- schedules

-- what is read as a schedule is written so
pub schedule_written : (text : List ℕ) (s : Schedule) → schedule_of text ≡ Some s → IsScheduleText text s
schedule_written text s e =
    let five = fields_written (preset text) s e in
    elim (preset_is text) as (λ _. IsScheduleText text s) [
      | inl same ↦ fields (subst (λ t. IsFiveFields t s) same five)
      | inr is ↦ preset_of (preset text) is five
    ]

-- what is written so is read
pub schedule_read : (text : List ℕ) (s : Schedule) → IsScheduleText text s → schedule_of text ≡ Some s
schedule_read text s (fields five) = elim (preset_is text) as (λ _. schedule_of text ≡ Some s) [
  | inl same ↦ ap (λ t. schedule_of_fields (fields_of t)) same ∙ five_read text s five
  | inr is ↦ (let alone = preset_alone text (preset text) is in let read = five_read text s five in absurd (cc))
]
schedule_read text s (preset_of meant is five) = ap (λ t. schedule_of_fields (fields_of t)) (preset_meant text meant is) ∙ five_read meant s five
