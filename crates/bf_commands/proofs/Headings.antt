-- What is told of places, one after another.
use Rattle.std.proofs.Common.{◌≡◌, ◌<◌, ◌≤◌, ◌+◌, ℕ, arith, Bor, IfSome, MatchOption, option_map, zero, suc, List, [], ◌∷◌, ◌++◌, length, take, get_or, Option, None, Some, refl, sym, ap, subst}
use Rattle.std.specs.Prelude.{slice_get}
use Rattle.std.specs.List.{All}
use Rattle.std.proofs.lemmas.List.{take_more}
use Rattle.std.proofs.lemmas.List.Elements.{All-head, All-tail}
use Rattle.bf_plan.specs.declared.plan.Dag.{Dag}
use Rattle.bf_interval.specs.declared.interval.Interval.{Interval}
use Rattle.bf_dependents.specs.declared.place.Place.{Place}
use Rattle.bf_journal.specs.declared.head.ClearedTask.{ClearedTask}
use Rattle.bf_commands.specs.Journaled.{Heading, IsToldOf, TellsFirst, TellsOf}
use Rattle.bf_commands.specs.inner.Journaled.{AddsTold}

module _ (dag : Dag) (intervals : List Interval) where
  -- of one place more nothing is told, whose run isn't there
  pub no_more : (places : List Place) (place : Place) (cleared : Heading) → slice_get intervals place.run ≡ None → TellsOf dag intervals places cleared → TellsOf dag intervals (places ++ place ∷ []) cleared
  no_more [] place cleared none tells = subst (λ (o : Option Interval). TellsFirst dag o place (λ rest. rest ≡ []) cleared) (sym none) tells
  no_more (p ∷ places) place cleared none tells = go (slice_get intervals p.run) (λ told is. no_more places place told none is) cleared tells
    where
      go : (o : Option Interval) → ((told : Heading) → TellsOf dag intervals places told → TellsOf dag intervals (places ++ place ∷ []) told) → (told : Heading) → TellsFirst dag o p (TellsOf dag intervals places) told → TellsFirst dag o p (TellsOf dag intervals (places ++ place ∷ [])) told
      go None more told is = more told is
      go (Some i) more [] is = absurd is
      go (Some i) more (first ∷ rest) is = (is.0, more rest is.1)

  -- and of one that is there, what is
  pub one_more : (places : List Place) (place : Place) (cleared : Heading) (interval : Interval) (more : ClearedTask) → slice_get intervals place.run ≡ Some interval → IsToldOf dag interval place more
      → TellsOf dag intervals places cleared → TellsOf dag intervals (places ++ place ∷ []) (cleared ++ more ∷ [])
  one_more [] place cleared interval more there told tells =
      subst (λ (o : Option Interval). TellsFirst dag o place (λ rest. rest ≡ []) (cleared ++ more ∷ [])) (sym there)
      (subst (λ (c : Heading). TellsFirst dag (Some interval) place (λ rest. rest ≡ []) (c ++ more ∷ [])) (sym tells) (told, refl))
  one_more (p ∷ places) place cleared interval more there told tells = go (slice_get intervals p.run) (λ all is. one_more places place all interval more there told is) cleared tells
    where
      go : (o : Option Interval) → ((all : Heading) → TellsOf dag intervals places all → TellsOf dag intervals (places ++ place ∷ []) (all ++ more ∷ [])) → (all : Heading) → TellsFirst dag o p (TellsOf dag intervals places) all → TellsFirst dag o p (TellsOf dag intervals (places ++ place ∷ [])) (all ++ more ∷ [])
      go None next all is = next all is
      go (Some i) next [] is = absurd is
      go (Some i) next (first ∷ rest) is = (is.0, next rest is.1)

  pub told_more : (places : List Place) (k : ℕ) (d : Place) (before cleared : Heading) → k < length places → TellsOf dag intervals (take k places) before
      → AddsTold dag (slice_get intervals (get_or places k d).run) (get_or places k d) before cleared → TellsOf dag intervals (take (k + 1) places) cleared
  told_more places k d before cleared low tells adds = subst (λ (ps : List Place). TellsOf dag intervals ps cleared) (sym (take_more places k d low)) (go (slice_get intervals place.run) refl adds)
    where
      place : Place
      place = get_or places k d

      go : (o : Option Interval) → slice_get intervals place.run ≡ o → AddsTold dag o place before cleared → TellsOf dag intervals (take k places ++ place ∷ []) cleared
      go None is same = no_more (take k places) place cleared is (subst (TellsOf dag intervals (take k places)) (sym same) tells)
      go (Some interval) is (more, told, added) = subst (TellsOf dag intervals (take k places ++ place ∷ [])) (sym added) (one_more (take k places) place before interval more is told tells)

-- what holds of all holds of one that is looked up
pub all_at : {X : Type 0} (P : X → Type 0) (xs : List X) (k : ℕ) (x : X) → All P xs → slice_get xs k ≡ Some x → P x
all_at P [] k x all is = absurd (cc)
all_at P (y ∷ ys) zero x all is = subst P (cc) (All-head P y ys all)
all_at P (y ∷ ys) (suc k) x all is = all_at P ys k x (All-tail P y ys all) is

here_at : {X : Type 0} (xs : List X) (k : ℕ) (x : X) → k < length xs → x ≡ get_or xs k x → Some x ≡ slice_get xs k
here_at [] k x low is = absurd (omega arith)
here_at (y ∷ ys) zero x low is = ap Some is
here_at (y ∷ ys) (suc k) x low is = here_at ys k x (omega arith) is

none_at : {X : Type 0} (xs : List X) (k : ℕ) → length xs ≤ k → None ≡ slice_get xs k
none_at [] k past = refl
none_at (y ∷ ys) zero past = absurd (omega arith)
none_at (y ∷ ys) (suc k) past = none_at ys k (omega arith)

-- what is looked up by reference
pub looked_up : {X : Type 0} (Q : Bor X → Type 0) (xs : List X) (k : ℕ) (r : Option (Bor X)) → IfSome r (λ x. x.now ≡ get_or xs k x.now) → MatchOption r (length xs ≤ k) (λ x. (k < length xs) × Q x)
    → option_map (λ x. x.now) r ≡ slice_get xs k
looked_up Q xs k None is within = none_at xs k within
looked_up Q xs k (Some x) is within = here_at xs k x.now within.0 is
