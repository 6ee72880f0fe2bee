-- A text that spells days is cut at its first dots.
use Rattle.std.proofs.Common.{◌≡◌, ◌≢◌, ℕ, zero, suc, ℤ, List, ◌++◌, length, length-append, append_assoc, get_or, take, drop, codes, Option, Some, None, IfNone, sym, ap, ◌∙◌, subst, arith, inl, inr}
use Rattle.std.specs.Str.Pattern.{FindsText}
use Rattle.std.proofs.lemmas.Bool.{cases_lt}
use Rattle.std.proofs.lemmas.List.{drop_at, take_at, get_or-drop, get_or_append_left}
use Rattle.bf_moment.specs.Moment.{date_parts_text, moment_text}
use Rattle.bf_days.specs.declared.days.Days.{Days}
use Rattle.bf_days.specs.Days.{SpellsDay, SpellsRange, SpellDays}

-- there is no dot in a date
undotted : (y m d k : ℕ) → get_or (date_parts_text y m d) k 0 ≢ 46
undotted y m d zero e = omega (arith, e)
undotted y m d (suc zero) e = omega (arith, e)
undotted y m d (suc (suc zero)) e = omega (arith, e)
undotted y m d (suc (suc (suc zero))) e = omega (arith, e)
undotted y m d (suc (suc (suc (suc zero)))) e = omega (arith, e)
undotted y m d (suc (suc (suc (suc (suc zero))))) e = omega (arith, e)
undotted y m d (suc (suc (suc (suc (suc (suc zero)))))) e = omega (arith, e)
undotted y m d (suc (suc (suc (suc (suc (suc (suc zero))))))) e = omega (arith, e)
undotted y m d (suc (suc (suc (suc (suc (suc (suc (suc zero)))))))) e = omega (arith, e)
undotted y m d (suc (suc (suc (suc (suc (suc (suc (suc (suc zero))))))))) e = omega (arith, e)
undotted y m d (suc (suc (suc (suc (suc (suc (suc (suc (suc (suc k)))))))))) e = omega (arith, e)

no_dot : (text : List ℕ) (day : ℤ) (k : ℕ) → SpellsDay text day → get_or text k 0 ≢ 46
unfolding moment_text
no_dot text day k s dot = elim s.spells.text as (λ _. ⊥) [
  | inl long ↦ omega (arith, ap length long, s.date)
  | inr date ↦ undotted _ _ _ k (sym (ap (λ t. get_or t k 0) date.1) ∙ dot)
]

abbrev dots : List ℕ
dots = codes ".."

-- where dots are found there is one
dot_found : (text : List ℕ) (i j : ℕ) → drop i text ≡ dots ++ drop j text → get_or text i 0 ≡ 46
dot_found text i j e = ap (λ (k : ℕ). get_or text k 0) (omega arith) ∙ sym (get_or-drop i text 0 0) ∙ ap (λ t. get_or t 0 0) e

-- the first dots of a range stand behind its first day
pub first_dots : (text : List ℕ) (i j : ℕ) (days : Days) → FindsText dots text (Some (i, j)) → SpellsRange text days → i ≡ 10
first_dots text i j days find r =
    let small = r.first.date in
    let there : drop 10 text ≡ dots ++ r.behind = ap (drop 10) r.parts ∙ drop_at r.before (dots ++ r.behind) 10 small in
    elim (cases_lt 10 i) as (λ _. i ≡ 10) [
      | inl late ↦ absurd (find.0 10 late r.behind there)
      | inr early ↦ elim (cases_lt i 10) as (λ _. i ≡ 10) [
        | inl before ↦
            let same : get_or text i 0 ≡ get_or r.before i 0 = ap (λ t. get_or t i 0) r.parts ∙ get_or_append_left r.before (dots ++ r.behind) 0 i (omega (arith, small)) in
            absurd (no_dot r.before days.first i r.first (sym same ∙ dot_found text i j find.1.split))
        | inr exact ↦ omega arith
      ]
    ]

-- so the parts are the days
pub parts_of_range : (text : List ℕ) (i j : ℕ) (first last : List ℕ) (days : Days) → FindsText dots text (Some (i, j)) → first ≡ take i text → last ≡ drop j text → SpellsRange text days
    → SpellsDay first days.first × SpellsDay last days.last
parts_of_range text i j first last days find first_is last_is r =
    let ten = first_dots text i j days find r in
    let small = r.first.date in
    let twelve : j ≡ 12 = omega (arith, find.1.ends, ten) in
    let before : first ≡ r.before = first_is ∙ ap (λ (k : ℕ). take k text) ten ∙ ap (take 10) r.parts ∙ take_at r.before (dots ++ r.behind) 10 small in
    let whole : text ≡ (r.before ++ dots) ++ r.behind = r.parts ∙ sym (append_assoc r.before dots r.behind) in
    let long : length (r.before ++ dots) ≡ 12 = omega (arith, length-append r.before dots, small) in
    let behind : last ≡ r.behind = last_is ∙ ap (λ (k : ℕ). drop k text) twelve ∙ ap (drop 12) whole ∙ drop_at (r.before ++ dots) r.behind 12 long in
    let P : List ℕ → Type 0 = λ t. SpellsDay t days.first in
    let Q : List ℕ → Type 0 = λ t. SpellsDay t days.last in
    (subst P (sym before) r.first, subst Q (sym behind) r.last)

-- a day has no dots to be cut at
pub uncut_day : (text : List ℕ) (i j : ℕ) (day : ℤ) → FindsText dots text (Some (i, j)) → SpellsDay text day → ⊥
uncut_day text i j day find s = no_dot text day i s (dot_found text i j find.1.split)

-- a text that is cut spells days only where both parts spell one
pub cut_days : (text first last : List ℕ) (i j : ℕ) (days : Days) → FindsText dots text (Some (i, j)) → first ≡ take i text → last ≡ drop j text → SpellDays text days → SpellsDay first days.first × SpellsDay last days.last
cut_days text first last i j days find first_is last_is s = elim s as (λ _. SpellsDay first days.first × SpellsDay last days.last) [
  | inl one ↦ absurd (uncut_day text i j days.first find one.0)
  | inr range ↦ parts_of_range text i j first last days find first_is last_is range
]

-- and one that isn't cut only where it spells a day
pub uncut_days : (text : List ℕ) (days : Days) → FindsText dots text None → SpellDays text days → SpellsDay text days.first
uncut_days text days find s = elim s as (λ _. SpellsDay text days.first) [
  | inl one ↦ one.0
  | inr r ↦ absurd (find 10 (omega (arith, ap length r.parts, length-append r.before (dots ++ r.behind), r.first.date)) r.behind (ap (drop 10) r.parts ∙ drop_at r.before (dots ++ r.behind) 10 r.first.date))
]

pub if_none : {A P : Type 0} (o : Option A) → P → IfNone o P
if_none None p = p
if_none (Some x) p = tt
