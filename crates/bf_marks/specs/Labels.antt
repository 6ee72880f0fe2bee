-- What columns are labelled by: the group that a column stands in, and two digits in that.
use Rattle.std.specs.Prelude.{ℕ, ◌+◌, ◌-◌, ◌*◌, ◌&&◌, nat_lt, if◌then◌else◌, ℤ, pos, ◌+ℤ◌, int_lt, not, Bool, true, List, [], ◌∷◌, ◌++◌, length, map, take, drop, replicate, max, codes, slice_index_or}
use Rattle.std.specs.Str.{bytes_eq}
use Rattle.bf_moment.specs.Moment.{moment_text}
use Rattle.bf_marks.specs.declared.label.Scale.{Scale}
use Rattle.bf_marks.specs.declared.label.Scale.TheVariants.{Years, Months, Days, Hours, Minutes}

-- the second moment is at least so many nanoseconds behind the first
abbrev pub is_behind : ℤ → ℤ → ℤ → Bool
is_behind least first second = not (int_lt second (first +ℤ least))

-- so is each of these behind the one before
abbrev pub are_apart_in : ℤ → List ℤ → Bool
are_apart_in least [] = true
are_apart_in least (first ∷ []) = true
are_apart_in least (first ∷ second ∷ rest) =
    is_behind least first second && are_apart_in least (second ∷ rest)

-- so many seconds in nanoseconds
abbrev pub seconds_of : ℕ → ℤ
seconds_of n = pos (n * 1_000_000_000)

abbrev pub scale_among : List ℤ → Scale
scale_among starts =
    if are_apart_in (seconds_of 25_920_000) starts then Years
    else (if are_apart_in (seconds_of 2_419_200) starts then Months
    else (if are_apart_in (seconds_of 21_600) starts then Days
    else (if are_apart_in (seconds_of 900) starts then Hours
    else Minutes)))

-- by the least time between two columns: 300 days, 28 days, 6 hours, 15 minutes; one column is a day
abbrev pub scale_of : List ℤ → Scale
scale_of [] = Days
scale_of (start ∷ []) = Days
scale_of (first ∷ second ∷ rest) = scale_among (first ∷ second ∷ rest)

-- a year in its decade, a month in its year, and so on, of the text of a moment
abbrev pub group_size_of : Scale → ℕ
group_size_of Years = 3
group_size_of Months = 4
group_size_of Days = 7
group_size_of Hours = 10
group_size_of Minutes = 13

abbrev pub unit_place_of : Scale → ℕ
unit_place_of Years = 2
unit_place_of Months = 5
unit_place_of Days = 8
unit_place_of Hours = 11
unit_place_of Minutes = 14

abbrev pub group_of : Scale → List ℕ → List ℕ
group_of scale moment = take (group_size_of scale) moment

-- as 2020s, 2024, 2024-01, 2024-01-31, 2024-01-31T06
abbrev pub group_label : Scale → List ℕ → List ℕ
group_label Years group = group ++ codes "0s"
group_label scale group = group

-- whole where it fits before the next one, else its last three characters where it has more than five, else nothing
abbrev pub fitted_of : ℕ → List ℕ → List ℕ
fitted_of room label =
    if nat_lt (length label) room then label
    else (if nat_lt 5 (length label) && nat_lt 3 room then drop (length label - 3) label else [])

-- filled up with spaces
abbrev pub left : ℕ → List ℕ → List ℕ
left width text = text ++ replicate (width - length text) 32

abbrev pub right : ℕ → List ℕ → List ℕ
right width text = replicate (width - length text) 32 ++ text

-- ---- the lines above the rows

-- one behind another that are equal, as one with how many they are
abbrev pub counted_on : List ℕ → List (List ℕ × ℕ) → List (List ℕ × ℕ)
counted_on group [] = (group, 1) ∷ []
counted_on group ((next, count) ∷ rest) =
    if bytes_eq next group then (next, count + 1) ∷ rest else (group, 1) ∷ (next, count) ∷ rest

abbrev pub counted : List (List ℕ) → List (List ℕ × ℕ)
counted [] = []
counted (group ∷ groups) = counted_on group (counted groups)

-- each label at the first column of its group; the last one has room
abbrev pub groups_text : Scale → List (List ℕ × ℕ) → List ℕ
groups_text scale [] = []
groups_text scale ((group, count) ∷ []) =
    left count (fitted_of (max count 99) (group_label scale group))
groups_text scale ((group, count) ∷ next ∷ rest) =
    left count (fitted_of count (group_label scale group)) ++ groups_text scale (next ∷ rest)

-- the groups of columns that start then
abbrev pub groups_of : Scale → List ℤ → List (List ℕ)
groups_of scale starts = map (λ start. group_of scale (moment_text start)) starts

-- a digit of each column
abbrev pub digits_at : ℕ → List ℤ → List ℕ
digits_at place starts = map (λ start. slice_index_or (moment_text start) place 32) starts
