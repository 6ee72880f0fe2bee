-- The first fires, where the later ones are known to lie beyond them.
use Rattle.std.proofs.Common.{◌≡◌, ℕ, ◌+◌, ◌*◌, ◌-◌, ◌/◌, ◌<◌, ◌≤◌, List, length, get_or, ap, ◌∙◌, sym, arith, inl, inr}
use Rattle.std.specs.List.{Contains}
use Rattle.std.specs.List.Sorted.{IsStrictlyIncreasing}
use Rattle.std.proofs.lemmas.List.Kept.{AllPairs-from_increasing}
use Rattle.std.proofs.lemmas.List.{get_or_default}
use Rattle.std.proofs.lemmas.Bool.{cases_lt, cases_eq}
use Rattle.jiff.specs.Types.{TimeZone}
use Rattle.bf_cron.specs.declared.spec.CronSpec.{CronSpec}
use Rattle.bf_interval.specs.inner.Search.{Collects, AreFirst, AreEnough, IsSettled}
use Rattle.bf_interval.proofs.Margins.{from_low, before_day}
use Rattle.bf_interval.proofs.Placing.{rises}

-- the first n numbers
pub record IsCut (xs : List ℕ) (n : ℕ) (ys : List ℕ) : Type 0 where
  pub inside : n ≤ length xs
  pub len : length ys ≡ n
  pub same : (k d : ℕ) → k < n → get_or ys k d ≡ get_or xs k d

rising_cut : (xs ys : List ℕ) (n : ℕ) → IsStrictlyIncreasing xs → IsCut xs n ys → IsStrictlyIncreasing ys
rising_cut xs ys n rising cut k small = omega (arith, cut.len, cut.same k 0 (omega (arith, cut.len)), cut.same (k + 1) 0 (omega (arith, cut.len)), rising k (omega (arith, cut.len, cut.inside)))

uncut : (xs ys : List ℕ) (n k : ℕ) → IsCut xs n ys → Contains ys k → Contains xs k
uncut xs ys n k cut h = (h.0, omega (arith, h.1, cut.len, cut.inside), sym (cut.same h.0 k (omega (arith, h.1, cut.len))) ∙ h.2)

-- the cut has all numbers up to its last
cut_has : (xs ys : List ℕ) (n k : ℕ) → IsStrictlyIncreasing xs → IsCut xs n ys → 0 < n → k ≤ get_or xs (n - 1) 0 → Contains xs k → Contains ys k
cut_has xs ys n k rising cut some low h =
    let inside = h.1 in
    elim (cases_lt h.0 n) as (λ _. Contains ys k) [
      | inl l ↦ (h.0, omega (arith, cut.len), cut.same h.0 k l ∙ h.2)
      | inr g ↦
          let up = AllPairs-from_increasing xs rising (n - 1) h.0 k (omega arith) inside in
          let same : get_or xs (n - 1) k ≡ get_or xs (n - 1) 0 = get_or_default xs (n - 1) k 0 (omega (arith, cut.inside)) in
          let at = h.2 in
          absurd (omega arith)
    ]

-- and none above its last
cut_top : (xs ys : List ℕ) (n m : ℕ) → IsStrictlyIncreasing xs → IsCut xs n ys → 0 < n → Contains ys m → m ≤ get_or xs (n - 1) 0
cut_top xs ys n m rising cut some h =
    let inside : h.0 < n = omega (arith, h.1, cut.len) in
    let at : get_or xs h.0 0 ≡ m = get_or_default xs h.0 0 m (omega (arith, cut.inside)) ∙ sym (cut.same h.0 m inside) ∙ h.2 in
    elim (cases_eq h.0 (n - 1)) as (λ _. m ≤ get_or xs (n - 1) 0) [
      | inl e ↦ omega (arith, at, ap (λ k. get_or xs k 0) e)
      | inr d ↦ omega (arith, at, AllPairs-from_increasing xs rising h.0 (n - 1) 0 (omega arith) (omega (arith, cut.inside)))
    ]

-- up to the last of the settled ones nothing is missing
pub first_settled : (spec : CronSpec) (zone : TimeZone) (from to day n : ℕ) (xs ys : List ℕ) → IsStrictlyIncreasing xs → Collects spec zone (from / 86_400 * 1_440) (day * 1_440) from xs → IsSettled xs to day n → IsCut xs n ys → AreFirst spec zone from ys
first_settled spec zone from to day n xs ys rising c done cut = record {
  rising = rising_cut xs ys n rising cut;
  each = λ k h. (let (after, f) = c.each k (uncut xs ys n k cut h) in (after, f.0));
  below = λ k m after f h up.
      let top : m ≤ get_or xs (n - 1) 0 = cut_top xs ys n m rising cut done.some h in
      cut_has xs ys n k rising cut done.some (omega arith)
      (c.all k after (f, from_low spec zone from k f after, before_day spec zone day k f (omega (arith, done.early))));
}

pub enough_settled : (spec : CronSpec) (zone : TimeZone) (from to day n : ℕ) (xs ys : List ℕ) → IsSettled xs to day n → IsCut xs n ys → AreEnough spec zone from to ys
enough_settled spec zone from to day n xs ys done cut = elim done.enough as (λ _. AreEnough spec zone from to ys) [
  | inl past ↦ inl (n - 1, get_or xs (n - 1) 0, omega (arith, done.some, cut.len), cut.same (n - 1) _ (omega (arith, done.some)) ∙ get_or_default xs (n - 1) _ 0 (omega (arith, done.some, cut.inside)), past)
  | inr many ↦ inr (inl (omega (arith, cut.len)))
]

-- where the first number above `to`, or the 4,098th, is no earlier than what later minutes may give, none is settled
pub none_settled : (xs : List ℕ) (to day place last earliest : ℕ) → IsStrictlyIncreasing xs → earliest + 266_399 ≡ day * 86_400 → ((k : ℕ) → k < place → get_or xs k 0 ≤ to)
    → last ≤ place → last ≤ 4_097 → (last < length xs → earliest ≤ get_or xs last 0) → (n : ℕ) → IsSettled xs to day n → ⊥
none_settled xs to day place last earliest rising from before above few late n done =
    let behind : last ≤ n - 1 = elim (cases_lt (n - 1) last) as (λ _. last ≤ n - 1) [
      | inl l ↦ elim done.enough as (λ _. last ≤ n - 1) [
        | inl past ↦ absurd (omega (arith, past, before (n - 1) (omega (arith, l, above))))
        | inr many ↦ absurd (omega (arith, l, many, few))
      ]
      | inr g ↦ g
    ] in
    let within : n - 1 < length xs = omega (arith, done.some, done.inside) in
    omega (arith, rises xs rising last (n - 1) behind within, done.early, from, late (omega (arith, behind, within)))

-- where all minutes were looked at nothing is missing
pub first_whole : (spec : CronSpec) (zone : TimeZone) (from day : ℕ) (xs : List ℕ) → day ≡ 87_295 → IsStrictlyIncreasing xs → Collects spec zone (from / 86_400 * 1_440) (day * 1_440) from xs → AreFirst spec zone from xs
first_whole spec zone from day xs last rising c = record {
  rising = rising;
  each = λ k h. (let (after, f) = c.each k h in (after, f.0));
  below = λ k m after f h up. c.all k after (f, from_low spec zone from k f after, omega (arith, f.in_dates));
}

pub enough_whole : (spec : CronSpec) (zone : TimeZone) (from to day : ℕ) (xs : List ℕ) → day ≡ 87_295 → Collects spec zone (from / 86_400 * 1_440) (day * 1_440) from xs → AreEnough spec zone from to xs
enough_whole spec zone from to day xs last c = inr (inr (λ k after f. c.all k after (f, from_low spec zone from k f after, omega (arith, f.in_dates))))
