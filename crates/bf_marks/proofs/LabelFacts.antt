-- Labels of columns.
use Rattle.std.proofs.Common.{◌≡◌, ℕ, ◌+◌, ◌<◌, ◌==◌, ℤ, Bool, true, false, List, [], ◌∷◌, ◌++◌, ◌&&◌, length, map, max, drop, get_or, refl, sym, ap, ◌∙◌, add-one, append-nil, arith, if◌then◌else◌}
use Rattle.std.specs.Str.{bytes_eq}
use Rattle.std.proofs.lemmas.Bool.{cond-true, cond-false, ne_eqb}
use Rattle.std.proofs.lemmas.List.{drop-map, length-map}
use Rattle.std.specs.Cmp.Lexicographic.{bytes_decides}
use Rattle.bf_moment.specs.declared.moment.Moment.{Moment}
use Rattle.bf_value.proofs.ReadLemmas.{drop_item}
use Rattle.bf_moment.specs.Moment.{moment_text}
use Rattle.bf_marks.specs.declared.label.Scale.{Scale}
use Rattle.bf_marks.specs.Labels.{are_apart_in, is_behind, counted, counted_on, fitted_of, group_label, group_of, groups_of, groups_text, left}
use Rattle.bf_marks.specs.inner.Labels.{same_first}

abbrev pub moments : List Moment → List ℤ
moments starts = map (λ start. start.at.nanosecond) starts

-- one moment more
pub apart_more : (least before : ℤ) (starts : List Moment) (i : ℕ) (start : Moment) → i < length starts → start ≡ get_or starts i start →
    are_apart_in least (before ∷ moments (drop i starts)) ≡ (is_behind least before start.at.nanosecond && are_apart_in least (start.at.nanosecond ∷ moments (drop (i + 1) starts)))
apart_more least before starts i start inside is = ap (λ rest. are_apart_in least (before ∷ moments rest)) (drop_item starts i start inside is)

-- ---- groups

-- one more, of which it is known how those behind begin
begins : (g h : List ℕ) (gs : List (List ℕ)) (b : Bool) → bytes_eq h g ≡ b → counted (h ∷ gs) ≡ (h, same_first h gs + 1) ∷ counted (drop (same_first h gs) gs) →
    counted_on g ((h, same_first h gs + 1) ∷ counted (drop (same_first h gs) gs)) ≡ (g, same_first g (h ∷ gs) + 1) ∷ counted (drop (same_first g (h ∷ gs)) (h ∷ gs))
begins g h gs true e behind =
    let same : h ≡ g = (bytes_decides h g).0 e in
    let one : same_first g (h ∷ gs) ≡ same_first g gs + 1 = cond-true _ _ _ e in
    let off : drop (same_first g gs + 1) (h ∷ gs) ≡ drop (same_first g gs) gs = rw add-one refl in
    cond-true _ _ _ e ∙ ap (λ k. (k, same_first k gs + 1 + 1) ∷ counted (drop (same_first k gs) gs)) same
    ∙ ap (λ ys. (g, same_first g gs + 1 + 1) ∷ counted ys) (sym off) ∙ ap (λ n. (g, n + 1) ∷ counted (drop n (h ∷ gs))) (sym one)
begins g h gs false e behind =
    let none : same_first g (h ∷ gs) ≡ 0 = cond-false _ _ _ e in
    cond-false _ _ _ e ∙ ap (λ ys. (g, 1) ∷ ys) (sym behind) ∙ ap (λ n. (g, n + 1) ∷ counted (drop n (h ∷ gs))) (sym none)

front : (g : List ℕ) (gs : List (List ℕ)) → counted (g ∷ gs) ≡ (g, same_first g gs + 1) ∷ counted (drop (same_first g gs) gs)
front g [] = refl
front g (h ∷ gs) = ap (counted_on g) (front h gs) ∙ begins g h gs (bytes_eq h g) refl (front h gs)

with_room : (scale : Scale) (g : List ℕ) (count : ℕ) (ys : List (List ℕ)) → groups_text scale ((g, count) ∷ counted ys) ≡ left count (fitted_of (if length ys == 0 then max count 99 else count) (group_label scale g)) ++ groups_text scale (counted ys)
with_room scale g count [] = sym (append-nil (left count (fitted_of (max count 99) (group_label scale g))))
with_room scale g count (y ∷ ys) =
    let some : (if length (y ∷ ys) == 0 then max count 99 else count) ≡ count = cond-false _ _ _ (ne_eqb (length (y ∷ ys)) 0 (omega arith)) in
    ap (λ rest. groups_text scale ((g, count) ∷ rest)) (front y ys) ∙ ap (λ rest. left count (fitted_of count (group_label scale g)) ++ groups_text scale rest) (sym (front y ys))
    ∙ ap (λ room. left count (fitted_of room (group_label scale g)) ++ groups_text scale (counted (y ∷ ys))) (sym some)

pub group_more : (scale : Scale) (g : List ℕ) (gs : List (List ℕ)) (same room : ℕ) → same ≡ same_first g gs → room ≡ (if length (drop same gs) == 0 then max (same + 1) 99 else same + 1) →
    groups_text scale (counted (g ∷ gs)) ≡ left (same + 1) (fitted_of room (group_label scale g)) ++ groups_text scale (counted (drop same gs))
group_more scale g gs same room is has =
    ap (groups_text scale) (front g gs) ∙ ap (λ n. groups_text scale ((g, n + 1) ∷ counted (drop n gs))) (sym is) ∙ with_room scale g (same + 1) (drop same gs)
    ∙ ap (λ n. left (same + 1) (fitted_of n (group_label scale g)) ++ groups_text scale (counted (drop same gs))) (sym has)

pub dropped_groups : (scale : Scale) (n : ℕ) (starts : List Moment) → drop n (groups_of scale (moments starts)) ≡ groups_of scale (moments (drop n starts))
dropped_groups scale n starts =
    drop-map (λ start. group_of scale (moment_text start)) n (moments starts) ∙ ap (groups_of scale) (drop-map (λ start. start.at.nanosecond) n starts)

pub length_groups : (scale : Scale) (starts : List Moment) → length (groups_of scale (moments starts)) ≡ length starts
length_groups scale starts = length-map (moments starts) (λ start. group_of scale (moment_text start)) ∙ length-map starts (λ start. start.at.nanosecond)
