-- How wide the parts of a grid are, and what stands in them.
use Rattle.std.specs.Prelude.{ℕ, ◌-◌, ◌/◌, ◌==◌, ◌||◌, max, nat_lt, if◌then◌else◌, Bool, List, [], ◌∷◌, ◌++◌, length, take, drop, codes}
use Rattle.bf_marks.specs.declared.tally.Tally.{Tally}
use Rattle.bf_marks.specs.declared.widths.Widths.{Widths}
use Rattle.bf_marks.specs.Labels.{right}
use Rattle.bf_wording.specs.Numbers.{number_text}

-- a longer name is cut in its middle
abbrev pub cut_name : ℕ → List ℕ → List ℕ
cut_name room name =
    if nat_lt room (length name)
    then take ((room - 2) / 2) name ++ 46 ∷ 46
    ∷ drop (length name - (room - 2 - (room - 2) / 2)) name
    else name

-- how wide the sums of a state are: 0 where they aren't shown
abbrev pub width_in : Bool → ℕ → ℕ
width_in shown greatest = if shown then length (number_text greatest) else 0

-- by the sums over all tasks, and those of the runs
abbrev pub widths_of : Tally → Tally → Widths
widths_of total states = record {
  success = width_in (nat_lt 0 total.success) (max total.success states.success);
  failed = width_in (nat_lt 0 total.failed
      || nat_lt 0 states.failed) (max total.failed states.failed);
  upstream_failed = width_in (nat_lt 0 total.upstream_failed) total.upstream_failed;
  skipped = width_in (nat_lt 0 total.skipped) total.skipped;
  no_status = width_in (nat_lt 0 total.no_status) total.no_status;
}

-- what is left beside them, where a space stands before each
abbrev pub room_beside_of : ℕ → ℕ → ℕ
room_beside_of width room = if width == 0 then room else room - width - 1

-- with a space before it
abbrev pub in_column : ℕ → List ℕ → List ℕ
in_column width text = if width == 0 then [] else 32 ∷ right width text

-- nothing for 0
abbrev pub sum_text : ℕ → ℕ → List ℕ
sum_text width n = in_column width (if n == 0 then [] else number_text n)

abbrev pub sums_text : Widths → Tally → List ℕ
sums_text w t =
    sum_text w.success t.success ++ (sum_text w.failed t.failed
    ++ (sum_text w.upstream_failed t.upstream_failed
    ++ (sum_text w.skipped t.skipped ++ sum_text w.no_status t.no_status)))

-- the letters of the states that are shown
abbrev pub heads_text : Widths → List ℕ
heads_text w =
    in_column w.success (codes ".")
    ++ (in_column w.failed (codes "F") ++ (in_column w.upstream_failed (codes "u")
    ++ (in_column w.skipped (codes "s") ++ in_column w.no_status (codes "n"))))

-- how many columns there is room for, and at least 8
abbrev pub column_count_in : ℕ → ℕ → Widths → ℕ
column_count_in width names w =
    max 8 (room_beside_of w.no_status (room_beside_of w.skipped
    (room_beside_of w.upstream_failed (room_beside_of w.failed (room_beside_of w.success (width - names - 4))))))
