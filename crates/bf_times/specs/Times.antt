-- The times of a journal, as text.
use Rattle.std.specs.Prelude.{◌≡◌, ◌⊎◌, ℕ, ℤ, ◌+◌, ◌-◌, ◌==◌, nat_lt, ◌&&◌, ◌||◌, Bool, true, IsUtf8, List, [], ◌∷◌, ◌++◌, length, take, drop, get_or, position, codes, Option, Some, None, option_map, slice_get}
use Rattle.std.specs.Fmt.{signed_decimal}
use Rattle.std.specs.List.{flat_map}
use Rattle.std.specs.Str.{bytes_eq}
use Rattle.std.specs.Str.Lines.{lines}
use Rattle.bf_value.specs.declared.xval.Xval.{Xval}
use Rattle.bf_value.specs.declared.xval.Xval.TheVariants.{Int, Text, List as ListOf}
use Rattle.bf_value.specs.Json.{value_of_text}
use Rattle.bf_value.specs.Views.{xvals_of}
use Rattle.bf_plan.specs.declared.plan.Dag.{Dag}
use Rattle.bf_interval.specs.declared.interval.Interval.{Interval}
use Rattle.bf_report.specs.Report.{line}
use Rattle.bf_try.specs.Tries.{Ledger}
use Rattle.bf_journal.specs.declared.fault.JournalFault.{JournalFault}
use Rattle.bf_journal.specs.declared.fault.JournalFault.TheVariants.{BadRecord, Mismatch, OutOfMemory}
use Rattle.bf_journal.specs.Heads.{head_text}
use Rattle.bf_journal.specs.Found.{HasBadRecord}
use Rattle.bf_journal.specs.Left.{IsFoundIn}

-- ---- a record

-- a text as it is, and a whole number in decimal, with a space behind it
abbrev pub word_before : Xval → List ℕ
word_before (Text text) = text ++ 32 ∷ []
word_before (Int number) = signed_decimal number ++ 32 ∷ []
word_before _ = 32 ∷ []

abbrev pub three_numbers : List Xval → Option (ℤ × ℤ × ℤ)
three_numbers (Int one ∷ Int two ∷ Int three ∷ []) = Some (one, two, three)
three_numbers _ = None

-- three whole numbers: when a try started and when it ended, and its code
abbrev pub numbers_of : Option Xval → Option (ℤ × ℤ × ℤ)
numbers_of (Some (ListOf values)) = three_numbers (xvals_of values)
numbers_of _ = None

abbrev pub timed : List Xval → Option (ℤ × ℤ × ℤ) → List ℕ
timed name None = []
timed name (Some (start, end, code)) =
    flat_map word_before name ++ line (signed_decimal start ∷ signed_decimal end
    ∷ signed_decimal code ∷ [])

-- of a record whose ninth member is three whole numbers: its first four, which name its try, and these
abbrev pub record_times : List Xval → List ℕ
record_times fields = timed (take 4 fields) (numbers_of (slice_get fields 8))

abbrev pub value_times : Option Xval → List ℕ
value_times (Some (ListOf fields)) = record_times (xvals_of fields)
value_times _ = []

-- the times of the record that a line says
abbrev pub line_times : List ℕ → List ℕ
line_times text = value_times (value_of_text 127 text)

-- ---- a journal

abbrev pub times_text : List (List ℕ) → List ℕ
times_text records = codes "@times 1\n" ++ flat_map line_times records

-- the times of the records that stand in these lines; what isn't UTF-8 has none
abbrev pub IsTextOf : List ℕ → List ℕ → Type 0
IsTextOf records text =
    (IsUtf8 records × (text ≡ times_text (lines records)))
    ⊎ (¬ (IsUtf8 records) × (text ≡ times_text []))

-- the first line, with its line feed
abbrev pub first_line_of : List ℕ → Option (List ℕ)
first_line_of bytes = option_map (λ at. take (at + 1) bytes) (position (λ b. b == 10) bytes)

abbrev pub is_like_up_to : ℕ → List ℕ → List ℕ → Bool
is_like_up_to front head line =
    nat_lt front (length line) && (bytes_eq (take front line) (take front head)
    && (get_or line front 0 == 93 || get_or line front 0 == 44))

-- the line is the same as a head up to the bracket that ends its list, and has a bracket or a comma there: so it is that head, or has one
-- member more, of what is cleared
abbrev pub is_head_like : List ℕ → List ℕ → Bool
is_head_like head line = is_like_up_to (length head - 2) head line

-- up to that bracket
abbrev pub front_in : List ℕ → List ℕ
front_in head = take (length head - 2) head

-- the bytes begin with the head of a journal of the graph and the runs
pub record HasHead (dag : Dag) (intervals : List Interval) (bytes head : List ℕ) : Type 0 where
  pub is_first : first_line_of bytes ≡ Some head
  pub is_own : is_head_like (head_text dag intervals []) head ≡ true

-- the whole lines behind the head tell tries, and the text their times
pub record AreTimesOf (dag : Dag) (intervals : List Interval) (bytes text : List ℕ) : Type 0 where
  pub head : List ℕ
  pub has_head : HasHead dag intervals bytes head
  pub whole : ℕ
  pub tries : Ledger
  pub found : IsFoundIn dag intervals head bytes whole tries
  pub is : IsTextOf (take (whole - length head) (drop (length head) bytes)) text

-- why there are none: the bytes don't begin with such a head; or a whole line behind it tells of no try
abbrev pub IsTimesFault : Dag → List Interval → List ℕ → JournalFault → Type 0
IsTimesFault dag intervals bytes Mismatch = (head : List ℕ) → HasHead dag intervals bytes head → ⊥
IsTimesFault dag intervals bytes (BadRecord number) =
    (head : List ℕ) × HasHead dag intervals bytes head
    × HasBadRecord dag intervals head bytes number
IsTimesFault dag intervals bytes OutOfMemory = Unit {0}
