-- A draft has one answer: either it is accepted, or of its faults one is told.
use Rattle.std.proofs.Common.{◌≡◌, ◌≢◌, inl, inr, ℕ, ◌<◌, ◌≤◌, List, [], map, slice_get, Option, Some, None, Ok, refl, sym, ap, ◌∙◌, subst, arith}
use Rattle.std.specs.List.{slice_index_or}
use Rattle.std.proofs.lemmas.Bool.{cases_lt}
use Rattle.jiff.specs.Types.{TimeZone, Tzif}
use Rattle.jiff.specs.ZoneView.{plain_zone}
use Rattle.bf_graph.specs.Edges.{IsAcyclic}
use Rattle.bf_graph.proofs.NamedLemmas.{one_named}
use Rattle.bf_cron.specs.Cron.{Schedule, schedule_of, IsRead}
use Rattle.bf_cron.specs.Minutes.{NeverFires}
use Rattle.bf_cron.specs.declared.spec.CronSpec.{CronSpec}
use Rattle.bf_cron.proofs.Rules.{matches_is}
use Rattle.bf_zone.specs.Zones.{IsZoneOf}
use Rattle.bf_zone.specs.declared.zone.Zone.{Zone}
use Rattle.bf_zone.specs.declared.zone.Zone.TheVariants.{Rule, Table}
use Rattle.bf_read.specs.declared.draft.Draft.{Draft}
use Rattle.bf_read.specs.declared.draft.TaskDraft.{TaskDraft}
use Rattle.bf_check.specs.declared.fault.CheckFault.{CheckFault}
use Rattle.bf_check.specs.declared.fault.CheckFault.TheVariants.{Task, Cycle, BadCron, NeverFires as Never, BadZone, OutOfMemory}
use Rattle.bf_check.specs.declared.fault.TaskFault.{TaskFault}
use Rattle.bf_check.specs.declared.fault.TaskFault.TheVariants.{UnknownUpstream, UnknownPool, SlotsBeyondPool, BadRule, PullNotSettled, ExpandSource, ExpandRule, BranchMisuse}
use Rattle.bf_check.specs.Schedules.{Fires, IsScheduled, NeverFiresIn, IsNoZone}
use Rattle.bf_check.specs.Refusals.{refusal_number_of, IsFirst, NameCycle, HasNoneBelow, IsAccepted, IsFaultOf}
use Rattle.bf_check.specs.Checking.{shape_in}
use Rattle.bf_check.proofs.FaultLemmas.{one_number}

-- ---- numbers

-- no task's fault has a number from 11 to 13, or that of a cycle
late : (fault : TaskFault) → 11 ≤ refusal_number_of fault → 13 < refusal_number_of fault
late UnknownUpstream h = absurd (omega (arith, h))
late UnknownPool h = absurd (omega (arith, h))
late SlotsBeyondPool h = absurd (omega (arith, h))
late BadRule h = absurd (omega (arith, h))
late PullNotSettled h = omega arith
late ExpandSource h = omega arith
late ExpandRule h = omega arith
late BranchMisuse h = omega arith

behind_cycle : (fault : TaskFault) → 7 ≤ refusal_number_of fault → 7 < refusal_number_of fault
behind_cycle UnknownUpstream h = absurd (omega (arith, h))
behind_cycle UnknownPool h = omega arith
behind_cycle SlotsBeyondPool h = omega arith
behind_cycle BadRule h = omega arith
behind_cycle PullNotSettled h = omega arith
behind_cycle ExpandSource h = omega arith
behind_cycle ExpandRule h = omega arith
behind_cycle BranchMisuse h = omega arith

-- ---- schedules and zones

fires_once : (spec other : CronSpec) (o : Option Schedule) → IsRead o (Ok spec) → IsRead o (Ok other) → NeverFires other → NeverFires spec
fires_once spec other None read again never = absurd read
fires_once spec other (Some s) read again never = λ m at h is e. never m at h is (matches_is other s at again ∙ sym (matches_is spec s at read) ∙ e)

fires_or_never : (text : List ℕ) (spec : CronSpec) → Fires text spec → NeverFiresIn text → ⊥
fires_or_never text spec fires never = fires.fires (fires_once spec never.spec (schedule_of text) fires.says never.says never.never)

says_something : (text : List ℕ) (spec : CronSpec) → IsRead (schedule_of text) (Ok spec) → schedule_of text ≡ None → ⊥
says_something text spec says e = subst (λ (o : Option Schedule). IsRead o (Ok spec)) e says

lent : (zone : Zone) → (z : TimeZone) × IsZoneOf zone z
lent (Rule tz) = (plain_zone tz, refl)
lent (Table t) = (Tzif (record { ref_ptr = (0, 0); now = t }), refl)

module _ (draft : Draft) (file : Option (List ℕ)) where
  zone_or_none : IsScheduled draft file → IsNoZone draft.zone file → ⊥
  zone_or_none scheduled none = let z = lent scheduled.zone in none z.0 (scheduled.zone_is z.0 z.1)

  -- ---- what two faults would say

  not_below : (fault : TaskFault) (id : List ℕ) (n : ℕ) → IsFirst draft fault id → HasNoneBelow draft n → n ≤ refusal_number_of fault
  not_below fault id n first none = elim (cases_lt (refusal_number_of fault) n) [
    | inl low ↦ absurd (none.tasks fault low first.t first.task first.there first.has)
    | inr high ↦ high
  ]

  one_place : (fault : TaskFault) (a b : List ℕ) (one : IsFirst draft fault a) (two : IsFirst draft fault b) → one.t ≡ two.t
  one_place fault a b one two = elim (cases_lt one.t two.t) [
    | inl before ↦ absurd (two.none_before one.t one.task before one.there one.has)
    | inr from ↦ elim (cases_lt two.t one.t) [
      | inl after ↦ absurd (one.none_before two.t two.task after two.there two.has)
      | inr to ↦ omega (arith, from, to)
    ]
  ]

  one_id : (fault : TaskFault) (a b : List ℕ) → IsFirst draft fault a → IsFirst draft fault b → a ≡ b
  one_id fault a b one two =
      let found : Some one.task ≡ Some two.task = sym one.there ∙ ap (slice_get draft.tasks) (one_place fault a b one two) ∙ two.there in
      let task : one.task ≡ two.task = cc in
      one.id_is ∙ ap (λ (t : TaskDraft). t.id) task ∙ sym two.id_is

  one_cycle : (a b : List (List ℕ)) → NameCycle (shape_in draft.tasks) a → NameCycle (shape_in draft.tasks) b → a ≡ b
  one_cycle a b one two =
      one.2 ∙ ap (map (λ t. slice_index_or (shape_in draft.tasks).ids t [])) (one_named (shape_in draft.tasks).upstreams one.0 two.0 one.1 two.1) ∙ sym two.2

  no_cycle : (names : List (List ℕ)) → NameCycle (shape_in draft.tasks) names → IsAcyclic (shape_in draft.tasks).upstreams → ⊥
  no_cycle names named acyclic = acyclic named.0 named.1.cycle

  abbrev Told : CheckFault → Type 0
  Told fault = IsFaultOf draft file fault

  -- of two unlike faults only one is told
  task_cycle : (x : TaskFault) (a : List ℕ) (b : List (List ℕ)) → IsFirst draft x a → HasNoneBelow draft (refusal_number_of x) → NameCycle (shape_in draft.tasks) b → HasNoneBelow draft 7 → ⊥
  task_cycle x a b first none named below = no_cycle b named (none.edges (behind_cycle x (not_below x a 7 first below)))

  task_late : (x : TaskFault) (a : List ℕ) (n : ℕ) → 11 ≤ n → IsFirst draft x a → HasNoneBelow draft n → (13 < refusal_number_of x → IsScheduled draft file) → IsScheduled draft file
  task_late x a n h first none scheduled = let low = not_below x a n first none in scheduled (late x (omega (arith, h, low)))

  pub one_fault : (f g : CheckFault) → IsFaultOf draft file f → IsFaultOf draft file g → f ≢ OutOfMemory → g ≢ OutOfMemory → f ≡ g
  one_fault (Task x a) (Task y b) f g _ _ =
      let low = not_below x a (refusal_number_of y) f.0 g.1 in
      let high = not_below y b (refusal_number_of x) g.0 f.1 in
      let same : x ≡ y = one_number x y (omega (arith, low, high)) in
      let moved : IsFirst draft x b = subst (λ (z : TaskFault). IsFirst draft z b) (sym same) g.0 in
      λ i. Task (same i) (one_id x a b f.0 moved i)
  one_fault (Task x a) (Cycle b) f g _ _ = absurd (task_cycle x a b f.0 f.1 g.0 g.1)
  one_fault (Task x a) BadCron f g _ _ = let s = task_late x a 11 (omega arith) f.0 g.1 f.2 in absurd (says_something draft.schedule s.spec s.fires.says g.0)
  one_fault (Task x a) Never f g _ _ = let s = task_late x a 12 (omega arith) f.0 g.1 f.2 in absurd (fires_or_never draft.schedule s.spec s.fires g.0)
  one_fault (Task x a) BadZone f g _ _ = absurd (zone_or_none (task_late x a 13 (omega arith) f.0 g.3 f.2) g.0)
  one_fault (Cycle a) (Task y b) f g _ _ = absurd (task_cycle y b a g.0 g.1 f.0 f.1)
  one_fault (Cycle a) (Cycle b) f g _ _ = ap Cycle (one_cycle a b f.0 g.0)
  one_fault (Cycle a) BadCron f g _ _ = absurd (no_cycle a f.0 (g.1.edges (omega arith)))
  one_fault (Cycle a) Never f g _ _ = absurd (no_cycle a f.0 (g.1.edges (omega arith)))
  one_fault (Cycle a) BadZone f g _ _ = absurd (no_cycle a f.0 (g.3.edges (omega arith)))
  one_fault BadCron (Task y b) f g _ _ = let s = task_late y b 11 (omega arith) g.0 f.1 g.2 in absurd (says_something draft.schedule s.spec s.fires.says f.0)
  one_fault BadCron (Cycle b) f g _ _ = absurd (no_cycle b g.0 (f.1.edges (omega arith)))
  one_fault BadCron BadCron f g _ _ = refl
  one_fault BadCron Never f g _ _ = absurd (says_something draft.schedule g.0.spec g.0.says f.0)
  one_fault BadCron BadZone f g _ _ = absurd (says_something draft.schedule g.1 g.2.says f.0)
  one_fault Never (Task y b) f g _ _ = let s = task_late y b 12 (omega arith) g.0 f.1 g.2 in absurd (fires_or_never draft.schedule s.spec s.fires f.0)
  one_fault Never (Cycle b) f g _ _ = absurd (no_cycle b g.0 (f.1.edges (omega arith)))
  one_fault Never BadCron f g _ _ = absurd (says_something draft.schedule f.0.spec f.0.says g.0)
  one_fault Never Never f g _ _ = refl
  one_fault Never BadZone f g _ _ = absurd (fires_or_never draft.schedule g.1 g.2 f.0)
  one_fault BadZone (Task y b) f g _ _ = absurd (zone_or_none (task_late y b 13 (omega arith) g.0 f.3 g.2) f.0)
  one_fault BadZone (Cycle b) f g _ _ = absurd (no_cycle b g.0 (f.3.edges (omega arith)))
  one_fault BadZone BadCron f g _ _ = absurd (says_something draft.schedule f.1 f.2.says g.0)
  one_fault BadZone Never f g _ _ = absurd (fires_or_never draft.schedule f.1 f.2 g.0)
  one_fault BadZone BadZone f g _ _ = refl
  one_fault OutOfMemory g f h out _ = absurd (out refl)
  one_fault f OutOfMemory g h _ out = absurd (out refl)

  pub not_both : (f : CheckFault) → IsAccepted draft file → IsFaultOf draft file f → f ≡ OutOfMemory
  not_both (Task x a) accepted f = absurd (accepted.graph.tasks x f.0.t f.0.task f.0.there f.0.has)
  not_both (Cycle a) accepted f = absurd (no_cycle a f.0 accepted.graph.edges)
  not_both BadCron accepted f = absurd (says_something draft.schedule accepted.scheduled.spec accepted.scheduled.fires.says f.0)
  not_both Never accepted f = absurd (fires_or_never draft.schedule accepted.scheduled.spec accepted.scheduled.fires f.0)
  not_both BadZone accepted f = absurd (zone_or_none accepted.scheduled f.0)
  not_both OutOfMemory accepted f = refl
