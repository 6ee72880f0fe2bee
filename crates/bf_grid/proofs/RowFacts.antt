-- Lines without the spaces at their end, and columns.
use Rattle.std.proofs.Common.{◌≡◌, ◌≢◌, ℕ, ◌+◌, ◌-◌, ◌*◌, ◌<◌, ◌≤◌, ◌==◌, ◌&&◌, Bool, true, false, List, [], ◌∷◌, ◌++◌, length, take, drop, get_or, slice_get, map, min, refl, sym, ap, ◌∙◌, arith, if◌then◌else◌}
use Rattle.std.proofs.lemmas.Bool.{cond-false, ne_eqb}
use Rattle.std.proofs.lemmas.List.{take_more, length_push, map_push, length-drop, take_min, take-map, drop-map}
use Rattle.std.specs.List.{range_with_len}
use Rattle.bf_report.specs.declared.report.RunReport.{RunReport}
use Rattle.bf_marks.specs.declared.mark.Mark.{Mark}
use Rattle.bf_grid.specs.GridRows.{by_column, column_of, trimmed_of}
use Rattle.bf_grid.specs.Grid.{column_starts, start_or}
use Rattle.bf_marks.proofs.OrderFacts.{range_more}

space_off : (bs : List ℕ) → trimmed_of (bs ++ 32 ∷ []) ≡ trimmed_of bs
space_off [] = refl
space_off (b ∷ bs) = ap (λ t. if (b == 32) && (length t == 0) then [] else b ∷ t) (space_off bs)

and_false : (b : ℕ) (n : ℕ) → n ≢ 0 → ((b == 32) && (n == 0)) ≡ false
and_false b n some = ap (λ e. (b == 32) && e) (ne_eqb n 0 some) ∙ none (b == 32)
  where
    none : (e : Bool) → (e && false) ≡ false
    none true = refl
    none false = refl

other_stays : (bs : List ℕ) (b : ℕ) → b ≢ 32 → trimmed_of (bs ++ b ∷ []) ≡ bs ++ b ∷ []
other_stays [] b other = cond-false _ _ _ (ap (λ e. e && (0 == 0)) (ne_eqb b 32 other))
other_stays (x ∷ xs) b other =
    ap (λ t. if (x == 32) && (length t == 0) then [] else x ∷ t) (other_stays xs b other)
    ∙ cond-false _ _ _ (and_false x (length (xs ++ b ∷ [])) (λ e. let some = length_push xs b in omega arith))

last_taken : (line : List ℕ) (end : ℕ) → 0 < end → end ≤ length line → take end line ≡ take (end - 1) line ++ get_or line (end - 1) 0 ∷ []
last_taken line end some inside =
    let more : end ≡ end - 1 + 1 = omega arith in
    ap (λ n. take n line) more ∙ take_more line (end - 1) 0 (omega arith)

-- a space at the end is left out
pub end_off : (line : List ℕ) (end : ℕ) → 0 < end → end ≤ length line → get_or line (end - 1) 0 ≡ 32 → trimmed_of (take (end - 1) line) ≡ trimmed_of (take end line)
end_off line end some inside space =
    sym (ap trimmed_of (last_taken line end some inside ∙ ap (λ x. take (end - 1) line ++ x ∷ []) space) ∙ space_off (take (end - 1) line))

-- and any other character stays
pub end_stays : (line : List ℕ) (end : ℕ) → 0 < end → end ≤ length line → get_or line (end - 1) 0 ≢ 32 → take end line ≡ trimmed_of (take end line)
end_stays line end some inside other =
    let all = last_taken line end some inside in
    all ∙ sym (ap trimmed_of all ∙ other_stays (take (end - 1) line) (get_or line (end - 1) 0) other)

pub nothing_stays : (line : List ℕ) (end : ℕ) → end ≡ 0 → take end line ≡ trimmed_of (take end line)
nothing_stays line end none = let same : take end line ≡ [] = ap (λ n. take n line) none in same ∙ ap trimmed_of (sym same)

-- ---- columns

-- the runs of a column, as they are cut out
pub column_cut : {X Y : Type 0} (f : X → Y) (xs : List X) (first each last : ℕ) → last ≡ min (length xs) (first + each) → map f (take (last - first) (drop first xs)) ≡ take each (drop first (map f xs))
column_cut f xs first each last is =
    let ys = drop first xs in
    let size : length ys ≡ length xs - first = length-drop first xs in
    let cut : last - first ≡ min each (length ys) = omega arith in
    ap (map f) (ap (λ n. take n ys) cut ∙ take_min each ys) ∙ sym (take-map f each ys) ∙ ap (take each) (sym (drop-map f first xs))

-- one column more
pub by_column_more : (count each : ℕ) (mark : List RunReport → Mark) (runs : List RunReport) → by_column (count + 1) each mark runs ≡ by_column count each mark runs ++ mark (column_of each runs count) ∷ []
by_column_more count each mark runs =
    let same : 0 + count ≡ count = omega arith in
    ap (map (λ place. mark (column_of each runs place))) (range_more 0 count ∙ ap (λ k. range_with_len 0 count ++ k ∷ []) same)
    ∙ map_push (λ place. mark (column_of each runs place)) (range_with_len 0 count) count

-- the start of one column more
pub starts_more : (count each : ℕ) (runs : List RunReport) → column_starts (count + 1) each runs ≡ column_starts count each runs ++ start_or (slice_get runs (count * each)) ∷ []
starts_more count each runs =
    let same : 0 + count ≡ count = omega arith in
    ap (map (λ place. start_or (slice_get runs (place * each)))) (range_more 0 count ∙ ap (λ k. range_with_len 0 count ++ k ∷ []) same)
    ∙ map_push (λ place. start_or (slice_get runs (place * each))) (range_with_len 0 count) count
