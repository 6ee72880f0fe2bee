-- What is looked up is what is kept.
use Rattle.std.proofs.Common.{◌≡◌, ℕ, ◌<◌, nat_lt, ◌&&◌, not, Bool, true, false, if◌then◌else◌, List, length, Option, None, Some, refl, sym, ap, ◌∙◌, arith, true≢false}
use Rattle.bf_core.specs.Terms.{Dag, Entry, Given, JobName, fits_in}
use Rattle.bf_report.specs.declared.report.Version.{Version}
use Rattle.bf_report.specs.declared.report.InstanceReport.{InstanceReport}
use Rattle.bf_report.specs.declared.report.Report.{Report}
use Rattle.bf_dependents.specs.declared.place.Place.{Place}
use Rattle.bf_dependents.specs.Dependents.{has_instance_in, AreDependents, Following, IsBeside}
use Rattle.bf_clear.specs.Entries.{entry_by, found_at, told}
use Rattle.bf_clear.specs.inner.Entries.{IsWithin}
use Rattle.bf_clear.specs.Keeping.{AreKept, Clearance, fitting, kept_in, kept_of}

-- ---- what the report tells of

some_found : (v : Version) (w : Option Given) (m : Option InstanceReport) (a : ℕ) (e : Entry) → entry_by v w m a ≡ Some e → (x : InstanceReport) × (m ≡ Some x)
some_found v w None a e h = cc
some_found v w (Some x) a e h = (x, refl)

told_found : (dag : Dag) (report : Report) (n : JobName) (e : Entry) → told dag report n ≡ Some e → (x : InstanceReport) × (found_at report n.run n.task n.index ≡ Some x)
unfolding told
told_found dag report n e h = some_found report.version _ (found_at report n.run n.task n.index) n.attempt e h

-- ---- what is cleared

module _ (dag : Dag) (seeds : List Place) (runs : ℕ) (cleared : Following) (report : Report) (are : AreDependents dag seeds runs cleared) (within : IsWithin dag runs report) where
  is_within : (n : JobName) (e : Entry) → told dag report n ≡ Some e → (n.run < runs) × (n.task < length dag.tasks)
  is_within n e here = let x : _ = told_found dag report n e here in within n.run n.task n.index x.0 x.1

  beside_of : (n : JobName) → n.run < runs → n.task < length dag.tasks → has_instance_in dag cleared n.run n.task n.index ≡ false → IsBeside dag seeds n
  beside_of n l m e d = true≢false (sym ((are.right n.run n.task n.index l m).1 d) ∙ e)

  cleared_beside : (n : JobName) → n.run < runs → n.task < length dag.tasks → IsBeside dag seeds n → has_instance_in dag cleared n.run n.task n.index ≡ false
  cleared_beside n l m beside = go (has_instance_in dag cleared n.run n.task n.index) refl
    where
      go : (b : Bool) → has_instance_in dag cleared n.run n.task n.index ≡ b → b ≡ false
      go true e = absurd (beside ((are.right n.run n.task n.index l m).0 e))
      go false e = refl

  abbrev looked : Clearance
  looked = record { dag = dag; cleared = cleared; report = report }

  kept_forth : (n : JobName) (e : Entry) → kept_in looked n ≡ Some e → (told dag report n ≡ Some e) × IsBeside dag seeds n × (fits_in dag n.task e.outcome ≡ true)
  kept_forth n e h = go (nat_lt n.task (length dag.tasks)) refl (has_instance_in dag cleared n.run n.task n.index) refl (told dag report n) refl h
    where
      fit : (d : Entry) → told dag report n ≡ Some d → has_instance_in dag cleared n.run n.task n.index ≡ false → (f : Bool) → fits_in dag n.task d.outcome ≡ f → (if f then Some d else None) ≡ Some e →
          (told dag report n ≡ Some e) × IsBeside dag seeds n × (fits_in dag n.task e.outcome ≡ true)
      fit d is free true f h =
          let same : d ≡ e = cc in
          let low : _ = is_within n d is in
          (is ∙ ap Some same, beside_of n low.0 low.1 free, ap (λ (d : Entry). fits_in dag n.task d.outcome) (sym same) ∙ f)
      fit d is free false f h = cc

      go : (a : Bool) → nat_lt n.task (length dag.tasks) ≡ a → (b : Bool) → has_instance_in dag cleared n.run n.task n.index ≡ b → (o : Option Entry) → told dag report n ≡ o → kept_of (a && not b) dag n.task o ≡ Some e →
          (told dag report n ≡ Some e) × IsBeside dag seeds n × (fits_in dag n.task e.outcome ≡ true)
      go true p false q (Some d) r h = fit d r q (fits_in dag n.task d.outcome) refl h
      go true p false q None r h = cc
      go true p true q o r h = cc
      go false p b q o r h = cc

  kept_back : (n : JobName) (e : Entry) → (told dag report n ≡ Some e) × IsBeside dag seeds n × (fits_in dag n.task e.outcome ≡ true) → kept_in looked n ≡ Some e
  kept_back n e (here, beside, fit) =
      ap (λ b. kept_of (b && not (has_instance_in dag cleared n.run n.task n.index)) dag n.task (told dag report n)) there
      ∙ (ap (λ b. kept_of (not b) dag n.task (told dag report n)) free
      ∙ (ap (fitting dag n.task) here ∙ ap (λ f. if f then Some e else None) fit))
    where
      low : (n.run < runs) × (n.task < length dag.tasks)
      low = is_within n e here

      there : nat_lt n.task (length dag.tasks) ≡ true
      there = let l : _ = low.1 in grind (arith, l)

      free : has_instance_in dag cleared n.run n.task n.index ≡ false
      free = cleared_beside n low.0 low.1 beside

pub kept_told : (dag : Dag) (seeds : List Place) (runs : ℕ) (cleared : Following) (report : Report) → AreDependents dag seeds runs cleared → IsWithin dag runs report →
    AreKept dag seeds report (kept_in (record { dag = dag; cleared = cleared; report = report }))
kept_told dag seeds runs cleared report are within n e = (kept_forth dag seeds runs cleared report are within n e, kept_back dag seeds runs cleared report are within n e)
