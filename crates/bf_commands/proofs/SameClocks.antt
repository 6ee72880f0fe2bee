-- What a zone's clock shows depends on what its text says alone.
use Rattle.std.proofs.Common.{◌≡◌, ℕ, ◌+◌, ◌-◌, ◌==◌, ℤ, pos, Bool, true, false, Option, Some, None, option_map, refl, ap, ◌∙◌, sym, cond, int_le, List, [], ◌∷◌, map, length, get_or, vec_len}
use Rattle.std.specs.List.{prefix_len}
use Rattle.std.proofs.Math.ListN.{get_or-map}
use Rattle.std.proofs.lemmas.List.{length-map}
use Rattle.jiff.specs.Types.{Offset, Posix, TimeZone as Zone, Tzif as Tzif'}
use Rattle.jiff.specs.Placed.{IsPosixZone, fixed_zone}
use Rattle.jiff_tz.specs.Zone.{offset_at}
use Rattle.jiff_tz.specs.Year.{year_of_nanos}
use Rattle.jiff_tz.specs.declared.posix.Dst.{Dst}
use Rattle.jiff_tz.specs.declared.posix.TimeZone.{TimeZone}
use Rattle.jiff_tz.specs.PosixText.{tz_view, dst_view}
use Rattle.jiff_tz.specs.PosixRule as Rule
use Rattle.jiff_tz.specs.PosixRule.{dst_at_by, in_window, match_some, utc_window}
use Rattle.jiff_tz.specs.TzifText.{TypeText, TransitionText, transition_text, type_view}
use Rattle.jiff_tz.specs.Tzif as Table
use Rattle.jiff_tz.specs.Tzif.{count_at, floor_second, no_transition, rule_after, transition_at, type_after, tzif_view}
use Rattle.jiff_tz.specs.declared.tzif.Tzif.{Tzif}
use Rattle.jiff_tz.specs.declared.tzif.transition.LocalTimeType.{LocalTimeType}
use Rattle.bf_zone.specs.Zones.{Asked, utc, offset, rule, file_asked, IsZone}
use Rattle.bf_zone.proofs.SameZone.{ok_injective, same_day_time, same_offset, some_injective}

-- ---- rules

-- daylight saving time by the start, the end and the offset of it
same_window : (x y : Dst) (year : ℤ) (s t : Offset) → s ≡ t → x.offset ≡ y.offset → x.rule.start ≡ y.rule.start → x.rule.end ≡ y.rule.end → utc_window x year s ≡ utc_window y year t
unfolding utc_window
same_window x y year s t e off start end = cc

abbrev offset_by : Bool → Offset → Offset → Offset
offset_by b dst std = cond b dst std

picked : (b : Bool) (d : Dst) (std : Offset) → match_some (cond b (Some d) None) std (λ (d : Dst). d.offset) ≡ offset_by b d.offset std
picked true d std = refl
picked false d std = refl

same_dst : (s t : Offset) (x y : Option Dst) (n : ℤ) → s ≡ t → option_map dst_view x ≡ option_map dst_view y
    → match_some (dst_at_by s x n) s (λ (d : Dst). d.offset) ≡ match_some (dst_at_by t y n) t (λ (d : Dst). d.offset)
same_dst s t None None n e h = e
same_dst s t None (Some y) n e h = absurd (cc)
same_dst s t (Some x) None n e h = absurd (cc)
same_dst s t (Some x) (Some y) n e h =
    let v = some_injective (dst_view x) (dst_view y) h in
    let off = same_offset x.offset y.offset (ap (λ d. d.seconds) v) in
    let start = same_day_time x.rule.start y.rule.start (ap (λ d. d.start) v) in
    let end = same_day_time x.rule.end y.rule.end (ap (λ d. d.finish) v) in
    let window = same_window x y (year_of_nanos n) s t e off start end in
    picked (in_window (utc_window x (year_of_nanos n) s) n) x s
    ∙ (λ i. offset_by (in_window (window i) n) (off i) (e i))
    ∙ sym (picked (in_window (utc_window y (year_of_nanos n) t) n) y t)

-- two rules that say the same have the same offset at each instant
same_rule_at : (a b : TimeZone) (n : ℤ) → tz_view a ≡ tz_view b → Rule.offset_at a n ≡ Rule.offset_at b n
same_rule_at a b n e = same_dst a.std_offset b.std_offset a.dst b.dst n (same_offset a.std_offset b.std_offset (ap (λ v. v.std_seconds) e)) (ap (λ v. v.dst) e)

-- ---- tables

prefix_len_map : {X Y : Type 0} (p : Y → Bool) (f : X → Y) (xs : List X) → prefix_len p (map f xs) ≡ prefix_len (λ x. p (f x)) xs
prefix_len_map p f [] = refl
prefix_len_map p f (x ∷ xs) = ap (λ n. cond (p (f x)) (1 + n) 0) (prefix_len_map p f xs)

abbrev Alike : Tzif → Tzif → Type 0
Alike z w = tzif_view z ≡ tzif_view w

rows : (z w : Tzif) → Alike z w → map transition_text z.transitions.items ≡ map transition_text w.transitions.items
rows z w e = ap (λ v. v.transitions) e

abbrev stand_in : TypeText → TransitionText
stand_in t = record { second = pos 0; before = t.seconds; after = t }

text_is : (z : Tzif) (i : ℕ) → transition_text (transition_at z i) ≡ get_or (map transition_text z.transitions.items) i (stand_in (type_view z.first))
text_is z i = sym (get_or-map transition_text z.transitions.items i (no_transition z))

same_text : (z w : Tzif) (i : ℕ) → Alike z w → transition_text (transition_at z i) ≡ transition_text (transition_at w i)
same_text z w i e = text_is z i ∙ (λ j. get_or (rows z w e j) i (stand_in ((e j).first))) ∙ sym (text_is w i)

same_count : (z w : Tzif) (s : ℤ) → Alike z w → count_at z s ≡ count_at w s
same_count z w s e =
    sym (prefix_len_map (λ r. int_le r.second s) transition_text z.transitions.items)
    ∙ ap (prefix_len (λ r. int_le r.second s)) (rows z w e)
    ∙ prefix_len_map (λ r. int_le r.second s) transition_text w.transitions.items

same_after : (z w : Tzif) (i : ℕ) → Alike z w → (transition_at z i).after.offset ≡ (transition_at w i).after.offset
same_after z w i e = same_offset _ _ (ap (λ r. r.after.seconds) (same_text z w i e))

same_first : (z w : Tzif) → Alike z w → z.first.offset ≡ w.first.offset
same_first z w e = same_offset _ _ (ap (λ v. v.first.seconds) e)

type_offset : (b : Bool) (x y : LocalTimeType) → (cond b x y).offset ≡ cond b x.offset y.offset
type_offset true x y = refl
type_offset false x y = refl

same_type : (z w : Tzif) (n : ℕ) → Alike z w → (type_after z n).offset ≡ (type_after w n).offset
same_type z w n e =
    type_offset (n == 0) z.first (transition_at z (n - 1)).after
    ∙ (λ j. cond (n == 0) (same_first z w e j) (same_after z w (n - 1) e j))
    ∙ sym (type_offset (n == 0) w.first (transition_at w (n - 1)).after)

rule_view : (b : Bool) (x : Option TimeZone) → option_map tz_view (cond b x None) ≡ cond b (option_map tz_view x) None
rule_view true x = refl
rule_view false x = refl

length_rows : (z : Tzif) → vec_len z.transitions ≡ length (map transition_text z.transitions.items)
length_rows z = z.transitions.ok.0 ∙ sym (length-map z.transitions.items transition_text)

same_rule_after : (z w : Tzif) (n : ℕ) → Alike z w → option_map tz_view (rule_after z n) ≡ option_map tz_view (rule_after w n)
same_rule_after z w n e =
    rule_view (n == vec_len z.transitions) z.posix_tz
    ∙ (λ j. cond (n == length_rows z j) (option_map tz_view z.posix_tz) None)
    ∙ (λ j. cond (n == length (rows z w e j)) ((e j).rule) None)
    ∙ (λ j. cond (n == sym (length_rows w) j) (option_map tz_view w.posix_tz) None)
    ∙ sym (rule_view (n == vec_len w.transitions) w.posix_tz)

same_match : (x y : Option TimeZone) (a b : Offset) (n : ℤ) → option_map tz_view x ≡ option_map tz_view y → a ≡ b → match_some x a (λ tz. Rule.offset_at tz n) ≡ match_some y b (λ tz. Rule.offset_at tz n)
same_match None None a b n e h = h
same_match None (Some y) a b n e h = absurd (cc)
same_match (Some x) None a b n e h = absurd (cc)
same_match (Some x) (Some y) a b n e h = same_rule_at x y n (some_injective (tz_view x) (tz_view y) e)

-- the offset behind so many transitions
abbrev offset_after : Tzif → ℕ → ℤ → Offset
offset_after z count n = match_some (rule_after z count) (type_after z count).offset (λ tz. Rule.offset_at tz n)

-- two tables that say the same have the same offset at each instant
same_table_at : (z w : Tzif) (n : ℤ) → Alike z w → Table.offset_at z n ≡ Table.offset_at w n
same_table_at z w n e =
    let s = floor_second n in
    let count = count_at z s in
    let step : offset_after z count n ≡ offset_after w count n = same_match (rule_after z count) (rule_after w count) _ _ n (same_rule_after z w count e) (same_type z w count e) in
    step ∙ ap (λ m. offset_after w m n) (same_count z w s e)

-- ---- zones

posix_zone : (text : List ℕ) (a b : Zone) (n : ℤ) → IsPosixZone text a → IsPosixZone text b → offset_at a n ≡ offset_at b n
unfolding offset_at
posix_zone text (Posix x) (Posix y) n h k = ap (λ (o : Offset). o.seconds) (same_rule_at x y n (some_injective (tz_view x) (tz_view y) (sym h ∙ k)))
posix_zone text (Posix x) b n h k = absurd k
posix_zone text a b n h k = absurd h

file_zone : (bytes : List ℕ) (a b : Zone) (n : ℤ) → IsZone file_asked (Some bytes) a → IsZone file_asked (Some bytes) b → offset_at a n ≡ offset_at b n
unfolding offset_at
file_zone bytes (Tzif' x) (Tzif' y) n h k = ap (λ (o : Offset). o.seconds) (same_table_at x.now y.now n (ok_injective (tzif_view x.now) (tzif_view y.now) (sym h.1 ∙ k.1)))
file_zone bytes (Tzif' x) b n h k = absurd k
file_zone bytes a b n h k = absurd h

-- clocks of zones that one text and one file mean show the same at each instant
pub same_clocks : (a : Asked) (bytes : Option (List ℕ)) (x y : Zone) → IsZone a bytes x → IsZone a bytes y → (n : ℤ) → offset_at x n ≡ offset_at y n
same_clocks utc bytes x y h k n = ap (λ z. offset_at z n) (h ∙ sym k)
same_clocks (offset o) bytes x y h k n =
    let same = same_offset h.0 k.0 (h.1 ∙ sym k.1) in
    ap (λ z. offset_at z n) (h.2 ∙ ap fixed_zone same ∙ sym k.2)
same_clocks (rule text) bytes x y h k n = posix_zone text x y n h k
same_clocks file None x y h k n = absurd h
same_clocks file (Some bytes) x y h k n = file_zone bytes x y n h k
