-- One more minute among those whose fires were found.
use Rattle.std.proofs.Common.{◌≡◌, ◌⊎◌, ℕ, ◌+◌, ◌<◌, ◌≤◌, true, ℤ, List, ap, ◌∙◌, sym, subst, arith, inl, inr}
use Rattle.std.proofs.lemmas.Int.{ints}
use Rattle.std.specs.List.{Contains}
use Rattle.std.proofs.lemmas.Bool.{cases_eq, cases_lt}
use Rattle.jiff.specs.Types.{DateTime, TimeZone}
use Rattle.jiff.specs.Words.{picked_instant}
use Rattle.bf_cron.specs.Cron.{spec_matches}
use Rattle.bf_cron.specs.Minutes.{IsMinute, minutes}
use Rattle.bf_cron.specs.declared.spec.CronSpec.{CronSpec}
use Rattle.bf_cron.proofs.Dates.{same_minute}
use Rattle.bf_interval.specs.Fires.{IsFire}
use Rattle.bf_interval.specs.inner.Search.{Adds, FiresBetween, Collects, seconds}

wider : {spec : CronSpec} {zone : TimeZone} {low m more : ℕ} {n : ℤ} → m ≤ more → FiresBetween spec zone low m n → FiresBetween spec zone low more n
wider up (fire, above, below) = (fire, above, omega arith)

-- a fire of one minute more is one of before, or that minute's
last_minute : (spec : CronSpec) (zone : TimeZone) (low m : ℕ) (n : ℤ) (at : DateTime) → IsMinute m at → FiresBetween spec zone low (m + 1) n → FiresBetween spec zone low m n ⊎ ((spec_matches spec at ≡ true) × (n ≡ picked_instant zone at))
last_minute spec zone low m n at shown (fire, above, below) =
    elim (cases_eq fire.minute m) as (λ _. FiresBetween spec zone low m n ⊎ ((spec_matches spec at ≡ true) × (n ≡ picked_instant zone at))) [
      | inl e ↦ let P : ℕ → Type 0 = λ k. IsMinute k fire.at in
          let same = same_minute m fire.at at (subst P e fire.shown) shown in
          inr (ap (spec_matches spec) (sym same) ∙ fire.matching, fire.placed ∙ ap (picked_instant zone) same)
      | inr d ↦ inl (fire, above, omega arith)
    ]

-- where that minute gives nothing from `from` on, nothing is added
pub collects_none : (spec : CronSpec) (zone : TimeZone) (low m from : ℕ) (found : List ℕ) (at : DateTime) → IsMinute m at → (spec_matches spec at ≡ true → (k : ℕ) → from ≤ k → seconds k ≡ picked_instant zone at → ⊥) → Collects spec zone low m from found → Collects spec zone low (m + 1) from found
collects_none spec zone low m from found at shown none c = record {
  each = λ k h. (let (after, f) = c.each k h in (after, wider (omega arith) f));
  all = λ k after f. elim (last_minute spec zone low m (seconds k) at shown f) as (λ _. Contains found k) [ inl g ↦ c.all k after g | inr e ↦ absurd (none e.0 k after e.1) ];
}

-- and else its second is
pub collects_one : (spec : CronSpec) (zone : TimeZone) (low m from : ℕ) (found more : List ℕ) (at : DateTime) (second : ℕ) → m < minutes → low ≤ m → IsMinute m at → spec_matches spec at ≡ true → from ≤ second → picked_instant zone at ≡ seconds second → Adds second found more → Collects spec zone low m from found → Collects spec zone low (m + 1) from more
collects_one spec zone low m from found more at second small above shown fits after is adds c =
    let own : IsFire spec zone (seconds second) = record { minute = m; in_dates = small; at = at; shown = shown; matching = fits; placed = sym is } in
    let new : FiresBetween spec zone low (m + 1) (seconds second) = (own, above, omega arith) in
    record {
      each = λ k h. elim (adds.only k h) as (λ _. (from ≤ k) × FiresBetween spec zone low (m + 1) (seconds k)) [
        | inl e ↦ let P : ℕ → Type 0 = λ j. (from ≤ j) × FiresBetween spec zone low (m + 1) (seconds j) in subst P (sym e) (after, new)
        | inr o ↦ (let (later, f) = c.each k o in (later, wider (omega arith) f))
      ];
      all = λ k later f. elim (last_minute spec zone low m (seconds k) at shown f) as (λ _. Contains more k) [
        | inl g ↦ adds.keeps k (c.all k later g)
        | inr e ↦ let P : ℕ → Type 0 = λ j. Contains more j in
            let both = e.1 ∙ is in
            let same : k ≡ second = omega (arith, ints, both) in
            subst P (sym same) adds.has
      ];
    }

-- minutes that don't match add nothing
pub collects_skip : (spec : CronSpec) (zone : TimeZone) (low m more from : ℕ) (found : List ℕ) → m ≤ more → ((q : ℕ) (at : DateTime) → m ≤ q → q < more → IsMinute q at → spec_matches spec at ≡ true → ⊥) → Collects spec zone low m from found → Collects spec zone low more from found
collects_skip spec zone low m more from found up none c = record {
  each = λ k h. (let (after, f) = c.each k h in (after, wider up f));
  all = λ k after f.
      let (fire, above, below) = f in
      elim (cases_lt fire.minute m) as (λ _. Contains found k) [
        | inl l ↦ c.all k after (fire, above, l)
        | inr g ↦ absurd (none fire.minute fire.at g below fire.shown fire.matching)
      ];
}
