-- What a zone picks depends on what its text says alone.
use Rattle.std.proofs.Common.{◌≡◌, ℤ, pos, Bool, true, Option, Some, None, option_map, refl, ap, ◌∙◌, sym}
use Rattle.std.proofs.Props.{props}
use Rattle.std.specs.Prelude.{IsTrue}
use Rattle.jiff_core.specs.Calendar.{IsWithin}
use Rattle.jiff_core.specs.Timestamp.{IsOffsetSeconds}
use mathlib.Core.HLevel.{is_prop→PathP}
use Rattle.jiff.specs.Types.{DateTime, Offset}
use Rattle.jiff.specs.Words.{civil_nanos}
use Rattle.std.proofs.Common.{Result, Ok}
use Rattle.jiff.specs.Types.{TimeZone as Zone, Posix, Tzif as Tzif'}
use Rattle.jiff_tz.specs.Zone.{ambiguous_at as zone_offsets}
use Rattle.jiff.specs.Placed.{IsPosixZone, fixed_zone}
use Rattle.bf_zone.specs.Zones.{Asked, utc, offset, rule, file_asked, IsZone}
use Rattle.jiff.specs.Words.{instant_of, compatible_offset, picked_instant}
use Rattle.jiff_tz.specs.PosixDay.{is_rule_day}
use Rattle.jiff_tz.specs.declared.posix.DayTime.{DayTime}
use Rattle.jiff_tz.specs.declared.posix.Dst.{Dst}
use Rattle.jiff_tz.specs.declared.posix.TimeZone.{TimeZone}
use Rattle.jiff_tz.specs.PosixText.{tz_view, dst_view, day_time_view}
use Rattle.jiff_tz.specs.PosixRule.{ambiguous_at_by, ambiguous_at, ambiguous_by, rule_nanos, match_some}
use Rattle.std.proofs.Common.{ℕ, ◌+◌, ◌-◌, ◌==◌, false, cond, int_le, int_lt, List, [], ◌∷◌, map, length, get_or, vec_len}
use Rattle.std.specs.List.{prefix_len}
use Rattle.std.proofs.Math.ListN.{get_or-map}
use Rattle.std.proofs.lemmas.List.{length-map}
use Rattle.jiff_core.specs.DateTime.{civil_seconds}
use Rattle.jiff_tz.specs.TzifText as Text
use Rattle.jiff_tz.specs.TzifText.{TypeText, TransitionText, transition_text, type_view}
use Rattle.jiff_tz.specs.Tzif as Table
use Rattle.jiff_tz.specs.Tzif.{tzif_view, transition_at, civil_count_at, is_inside, offsets_in, type_after, rule_after, ambiguous_after, no_transition}
use Rattle.jiff_tz.specs.declared.tzif.Tzif.{Tzif}
use Rattle.jiff_tz.specs.declared.tzif.transition.LocalTimeType.{LocalTimeType}
use Rattle.jiff_tz.specs.declared.ambiguous.AmbiguousOffset.{AmbiguousOffset}
use Rattle.jiff_tz.specs.declared.ambiguous.AmbiguousOffset.TheVariants.{Unambiguous, Gap, Fold}

pub same_offset : (a b : Offset) → a.seconds ≡ b.seconds → a ≡ b
same_offset a b e = λ i. record {
  seconds = e i;
  in_range = is_prop→PathP (λ j. IsOffsetSeconds (e j)) (λ j. hlevel props) a.in_range b.in_range i;
}

pub same_day_time : (a b : DayTime) → day_time_view a ≡ day_time_view b → a ≡ b
same_day_time a b e =
    let date = ap (λ p. p.0) e in
    let time = ap (λ p. p.1) e in
    λ i. record {
      date = date i;
      time = time i;
      date_in = is_prop→PathP (λ j. IsTrue (is_rule_day (date j))) (λ j. hlevel props) a.date_in b.date_in i;
      time_in = is_prop→PathP (λ j. IsWithin 604_799 (time j)) (λ j. hlevel props) a.time_in b.time_in i;
    }

pub some_injective : {A : Type 0} (x y : A) → Some x ≡ Some y → x ≡ y
some_injective x y e = cc

pub ok_injective : {A E : Type 0} (x y : A) → ◌≡◌ {A = Result A E} (Ok x) (Ok y) → x ≡ y
ok_injective x y e = cc

same_dst : (s t : Offset) (x y : Option Dst) (dt : DateTime) → s ≡ t → option_map dst_view x ≡ option_map dst_view y → ambiguous_at_by s x dt ≡ ambiguous_at_by t y dt
same_dst s t None None dt e h = ap (λ o. ambiguous_at_by o None dt) e
same_dst s t None (Some y) dt e h = absurd (cc)
same_dst s t (Some x) None dt e h = absurd (cc)
same_dst s t (Some x) (Some y) dt e h =
    let v = some_injective (dst_view x) (dst_view y) h in
    let off = same_offset x.offset y.offset (ap (λ d. d.seconds) v) in
    let start = same_day_time x.rule.start y.rule.start (ap (λ d. d.start) v) in
    let end = same_day_time x.rule.end y.rule.end (ap (λ d. d.finish) v) in
    λ i. ambiguous_by (e i) (off i) (rule_nanos dt.date.year (start i) (pos 0), rule_nanos dt.date.year (end i) (pos 0)) (civil_nanos dt)

-- two rules that say the same have the same offsets at each datetime
pub same_rule : (a b : TimeZone) (dt : DateTime) → tz_view a ≡ tz_view b → ambiguous_at a dt ≡ ambiguous_at b dt
same_rule a b dt e = same_dst a.std_offset b.std_offset a.dst b.dst dt (same_offset a.std_offset b.std_offset (ap (λ v. v.std_seconds) e)) (ap (λ v. v.dst) e)

-- ---- tables

prefix_len_map : {X Y : Type 0} (p : Y → Bool) (f : X → Y) (xs : List X) → prefix_len p (map f xs) ≡ prefix_len (λ x. p (f x)) xs
prefix_len_map p f [] = refl
prefix_len_map p f (x ∷ xs) = ap (λ n. cond (p (f x)) (1 + n) 0) (prefix_len_map p f xs)

-- two tables that say the same
abbrev Alike : Tzif → Tzif → Type 0
Alike z w = tzif_view z ≡ tzif_view w

rows : (z w : Tzif) → Alike z w → map transition_text z.transitions.items ≡ map transition_text w.transitions.items
rows z w e = ap (λ v. v.transitions) e

-- what a place of the table says
abbrev stand_in : TypeText → TransitionText
stand_in t = record { second = pos 0; before = t.seconds; after = t }

text_is : (z : Tzif) (i : ℕ) → transition_text (transition_at z i) ≡ get_or (map transition_text z.transitions.items) i (stand_in (type_view z.first))
text_is z i = sym (get_or-map transition_text z.transitions.items i (no_transition z))

same_text : (z w : Tzif) (i : ℕ) → Alike z w → transition_text (transition_at z i) ≡ transition_text (transition_at w i)
same_text z w i e = text_is z i ∙ (λ j. get_or (rows z w e j) i (stand_in ((e j).first))) ∙ sym (text_is w i)

same_count : (z w : Tzif) (s : ℤ) → Alike z w → civil_count_at z s ≡ civil_count_at w s
same_count z w s e =
    sym (prefix_len_map (λ r. int_le (Text.civil_start r) s) transition_text z.transitions.items)
    ∙ ap (prefix_len (λ r. int_le (Text.civil_start r) s)) (rows z w e)
    ∙ prefix_len_map (λ r. int_le (Text.civil_start r) s) transition_text w.transitions.items

same_inside : (z w : Tzif) (n : ℕ) (s : ℤ) → Alike z w → is_inside z n s ≡ is_inside w n s
same_inside z w n s e = ap (λ r. cond (n == 0) false (int_lt s (Text.civil_end r))) (same_text z w (n - 1) e)

same_before : (z w : Tzif) (i : ℕ) → Alike z w → (transition_at z i).before ≡ (transition_at w i).before
same_before z w i e = same_offset _ _ (ap (λ r. r.before) (same_text z w i e))

same_after : (z w : Tzif) (i : ℕ) → Alike z w → (transition_at z i).after.offset ≡ (transition_at w i).after.offset
same_after z w i e = same_offset _ _ (ap (λ r. r.after.seconds) (same_text z w i e))

same_offsets : (z w : Tzif) (i : ℕ) → Alike z w → offsets_in (transition_at z i) ≡ offsets_in (transition_at w i)
same_offsets z w i e =
    let b = same_before z w i e in
    let a = same_after z w i e in
    λ j. cond (int_lt (b j).seconds (a j).seconds) (Gap (b j) (a j)) (Fold (b j) (a j))

same_first : (z w : Tzif) → Alike z w → z.first.offset ≡ w.first.offset
same_first z w e = same_offset _ _ (ap (λ v. v.first.seconds) e)

type_offset : (b : Bool) (x y : LocalTimeType) → (cond b x y).offset ≡ cond b x.offset y.offset
type_offset true x y = refl
type_offset false x y = refl

same_type : (z w : Tzif) (n : ℕ) → Alike z w → (type_after z n).offset ≡ (type_after w n).offset
same_type z w n e =
    type_offset (n == 0) z.first (transition_at z (n - 1)).after
    ∙ (λ j. cond (n == 0) (same_first z w e j) (same_after z w (n - 1) e j))
    ∙ sym (type_offset (n == 0) w.first (transition_at w (n - 1)).after)

same_match : (x y : Option TimeZone) (a b : AmbiguousOffset) (dt : DateTime) → option_map tz_view x ≡ option_map tz_view y → a ≡ b → match_some x a (λ tz. ambiguous_at tz dt) ≡ match_some y b (λ tz. ambiguous_at tz dt)
same_match None None a b dt e h = h
same_match None (Some y) a b dt e h = absurd (cc)
same_match (Some x) None a b dt e h = absurd (cc)
same_match (Some x) (Some y) a b dt e h = same_rule x y dt (some_injective (tz_view x) (tz_view y) e)

rule_view : (b : Bool) (x : Option TimeZone) → option_map tz_view (cond b x None) ≡ cond b (option_map tz_view x) None
rule_view true x = refl
rule_view false x = refl

length_rows : (z : Tzif) → vec_len z.transitions ≡ length (map transition_text z.transitions.items)
length_rows z = z.transitions.ok.0 ∙ sym (length-map z.transitions.items transition_text)

same_rule_after : (z w : Tzif) (n : ℕ) → Alike z w → option_map tz_view (rule_after z n) ≡ option_map tz_view (rule_after w n)
same_rule_after z w n e =
    rule_view (n == vec_len z.transitions) z.posix_tz
    ∙ (λ j. cond (n == length_rows z j) (option_map tz_view z.posix_tz) None)
    ∙ (λ j. cond (n == length (rows z w e j)) ((e j).rule) None)
    ∙ (λ j. cond (n == sym (length_rows w) j) (option_map tz_view w.posix_tz) None)
    ∙ sym (rule_view (n == vec_len w.transitions) w.posix_tz)

-- have the same offsets at each datetime
pub same_table : (z w : Tzif) (dt : DateTime) → Alike z w → Table.ambiguous_at z dt ≡ Table.ambiguous_at w dt
same_table z w dt e =
    let s = civil_seconds dt in
    let n = civil_count_at z s in
    let step : Table.ambiguous_at z dt ≡ cond (is_inside w n s) (offsets_in (transition_at w (n - 1))) (ambiguous_after w n dt) =
    λ j. cond (same_inside z w n s e j) (same_offsets z w (n - 1) e j) (same_match (rule_after z n) (rule_after w n) _ _ dt (same_rule_after z w n e) (ap Unambiguous (same_type z w n e)) j) in
    step ∙ ap (λ m. cond (is_inside w m s) (offsets_in (transition_at w (m - 1))) (ambiguous_after w m dt)) (same_count z w s e)

-- ---- zones

posix_zone : (text : List ℕ) (a b : Zone) (dt : DateTime) → IsPosixZone text a → IsPosixZone text b → zone_offsets a dt ≡ zone_offsets b dt
unfolding zone_offsets
posix_zone text (Posix x) (Posix y) dt h k = same_rule x y dt (some_injective (tz_view x) (tz_view y) (sym h ∙ k))
posix_zone text (Posix x) b dt h k = absurd k
posix_zone text a b dt h k = absurd h

file_zone : (bytes : List ℕ) (a b : Zone) (dt : DateTime) → IsZone file_asked (Some bytes) a → IsZone file_asked (Some bytes) b → zone_offsets a dt ≡ zone_offsets b dt
unfolding zone_offsets
file_zone bytes (Tzif' x) (Tzif' y) dt h k = same_table x.now y.now dt (ok_injective (tzif_view x.now) (tzif_view y.now) (sym h.1 ∙ k.1))
file_zone bytes (Tzif' x) b dt h k = absurd k
file_zone bytes a b dt h k = absurd h

-- zones that one text and one file mean have the same offsets at each datetime
same_offsets_at : (a : Asked) (bytes : Option (List ℕ)) (x y : Zone) (dt : DateTime) → IsZone a bytes x → IsZone a bytes y → zone_offsets x dt ≡ zone_offsets y dt
same_offsets_at utc bytes x y dt h k = ap (λ z. zone_offsets z dt) (h ∙ sym k)
same_offsets_at (offset n) bytes x y dt h k =
    let same = same_offset h.0 k.0 (h.1 ∙ sym k.1) in
    ap (λ z. zone_offsets z dt) (h.2 ∙ ap fixed_zone same ∙ sym k.2)
same_offsets_at (rule text) bytes x y dt h k = posix_zone text x y dt h k
same_offsets_at file None x y dt h k = absurd h
same_offsets_at file (Some bytes) x y dt h k = file_zone bytes x y dt h k

-- so they put each civil time to the same instant
pub same_instants : (a : Asked) (bytes : Option (List ℕ)) (x y : Zone) → IsZone a bytes x → IsZone a bytes y → (at : DateTime) → picked_instant x at ≡ picked_instant y at
same_instants a bytes x y h k at = ap (λ o. instant_of at (compatible_offset o)) (same_offsets_at a bytes x y at h k)
