-- Where no zone is meant: a file whose rule disagrees with its table.
use Rattle.std.proofs.Common.{◌≡◌, ◌-◌, ℕ, ℤ, Bool, true, false, cond, List, length, get_or, Option, Some, None, option_map, map, ap, ◌∙◌, sym, subst, inl, inr}
use Rattle.std.specs.Prelude.{IfSome}
use Rattle.jiff_core.specs.Timestamp.{nanos_of_seconds}
use Rattle.jiff.specs.Types.{Offset}
use Rattle.jiff_tz.specs.Abbreviation.{abbreviation_text}
use Rattle.jiff_tz.specs.Year.{year_of_nanos}
use Rattle.jiff_tz.specs.declared.info.Dst.{Dst as DstFlag}
use Rattle.jiff_tz.specs.declared.info.OffsetInfo.{OffsetInfo}
use Rattle.jiff_tz.specs.declared.posix.Dst.{Dst}
use Rattle.jiff_tz.specs.declared.posix.TimeZone.{TimeZone}
use Rattle.jiff_tz.specs.PosixText.{tz_view, dst_view}
use Rattle.jiff_tz.specs.PosixRule.{in_window, utc_window, dst_at_by, dst_info, std_info, info_at, match_some}
use Rattle.jiff_tz.specs.TzifText.{TransitionText, no_row}
use Rattle.jiff_tz.specs.TzifAgree.{FooterAgrees}
use Rattle.jiff_tz.specs.TzifText.{transition_text}
use Rattle.jiff_tz.specs.Tzif.{tzif_view, IsParseFailure}
use Rattle.jiff_core.specs.declared.error.Error.{Error}
use Rattle.jiff_core.specs.declared.error.Error.TheVariants.{OutOfMemory}
use Rattle.jiff.specs.Types.{TimeZone as Zone, Tzif as Tzif'}
use Rattle.bf_zone.specs.Zones.{IsFileZone}
use Rattle.bf_zone.proofs.SameZone.{same_offset, same_day_time, some_injective, ok_injective}

-- what is said of an offset
abbrev said : OffsetInfo → ℤ × DstFlag × List ℕ
said i = (i.offset.seconds, i.dst, abbreviation_text i.abbreviation)

same_window : (x y : Dst) (year : ℤ) (s t : Offset) → s ≡ t → dst_view x ≡ dst_view y → utc_window x year s ≡ utc_window y year t
unfolding utc_window
same_window x y year s t e v =
    let off = same_offset x.offset y.offset (ap (λ d. d.seconds) v) in
    let start = same_day_time x.rule.start y.rule.start (ap (λ d. d.start) v) in
    let end = same_day_time x.rule.end y.rule.end (ap (λ d. d.finish) v) in
    λ i. utc_window (record { «abbrev» = x.«abbrev»; offset = off i; rule = record { start = start i; end = end i } }) year (e i)

same_choice : (b c : Bool) (x y : Dst) (sa sb : OffsetInfo) → b ≡ c → said sa ≡ said sb → dst_view x ≡ dst_view y
    → said (match_some (cond b (Some x) None) sa dst_info) ≡ said (match_some (cond c (Some y) None) sb dst_info)
same_choice true true x y sa sb e h v = λ i. ((v i).seconds, (dst_info x).dst, (v i).name)
same_choice true false x y sa sb e h v = absurd (cc)
same_choice false true x y sa sb e h v = absurd (cc)
same_choice false false x y sa sb e h v = h

same_dst_info : (sa sb : OffsetInfo) (s t : Offset) (x y : Option Dst) (n : ℤ) → said sa ≡ said sb → s ≡ t → option_map dst_view x ≡ option_map dst_view y
    → said (match_some (dst_at_by s x n) sa dst_info) ≡ said (match_some (dst_at_by t y n) sb dst_info)
same_dst_info sa sb s t None None n h e v = h
same_dst_info sa sb s t None (Some y) n h e v = absurd (cc)
same_dst_info sa sb s t (Some x) None n h e v = absurd (cc)
same_dst_info sa sb s t (Some x) (Some y) n h e v =
    let w = some_injective (dst_view x) (dst_view y) v in
    same_choice (in_window (utc_window x (year_of_nanos n) s) n) (in_window (utc_window y (year_of_nanos n) t) n) x y sa sb
    (ap (λ u. in_window u n) (same_window x y (year_of_nanos n) s t e w)) h w

-- two rules that say the same say the same of each instant
same_info : (a b : TimeZone) (n : ℤ) → tz_view a ≡ tz_view b → said (info_at a n) ≡ said (info_at b n)
same_info a b n e =
    same_dst_info (std_info a) (std_info b) a.std_offset b.std_offset a.dst b.dst n
    (λ i. ((e i).std_seconds, (std_info a).dst, (e i).std_name))
    (same_offset a.std_offset b.std_offset (ap (λ v. v.std_seconds) e))
    (ap (λ v. v.dst) e)

-- so both agree with a table or neither does
same_footer : (rows : List TransitionText) (a b : TimeZone) → tz_view a ≡ tz_view b → FooterAgrees rows a → FooterAgrees rows b
same_footer rows a b e agrees = λ some.
    let n = nanos_of_seconds (get_or rows (length rows - 1) no_row).second in
    let same = same_info b a n (sym e) in
    let (seconds, dst, name) = agrees some in
    (ap (λ p. p.0) same ∙ seconds, ap (λ p. p.1) same ∙ dst, ap (λ p. p.2) same ∙ name)

pub agrees_by_view : (rows : List TransitionText) (o : Option TimeZone) (b : TimeZone) → option_map tz_view o ≡ Some (tz_view b) → IfSome o (λ tz. FooterAgrees rows tz) → FooterAgrees rows b
agrees_by_view rows None b e h = absurd (cc)
agrees_by_view rows (Some a) b e h = same_footer rows a b (some_injective (tz_view a) (tz_view b) e) h

-- what jiff refuses is the table of no zone
pub no_table : (bytes : List ℕ) (e : Error) (z : Zone) → (e ≡ OutOfMemory → ⊥) → IsParseFailure e bytes → IsFileZone bytes z → ⊥
no_table bytes e (Tzif' z) memory (inl (inl no_memory)) (small, read, agrees) = memory no_memory
no_table bytes e (Tzif' z) memory (inl (inr (fault, refused, is))) (small, read, agrees) = absurd (cc)
no_table bytes e (Tzif' z) memory (inr (is, bad)) (small, read, agrees) =
    let text = ok_injective bad.text (tzif_view z.now) (sym bad.read ∙ read) in
    let rule : option_map tz_view z.now.posix_tz ≡ Some (tz_view bad.rule) = sym (ap (λ t. t.rule) text) ∙ bad.is_rule in
    let fits = agrees_by_view (map transition_text z.now.transitions.items) z.now.posix_tz bad.rule rule agrees in
    bad.disagrees (subst (λ rows. FooterAgrees rows bad.rule) (sym (ap (λ t. t.transitions) text)) fits)
no_table bytes e z memory failure is = absurd is
