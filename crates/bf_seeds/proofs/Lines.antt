-- Lines of a seeds file, one after another.
use Rattle.std.proofs.Common.{◌≡◌, ℕ, suc, ◌<◌, ◌+◌, nat_lt, false, List, [], ◌∷◌, ◌++◌, length, get_or, take, drop, Bor, Option, Some, None, MatchOption, IfNone, sym, ap, ap₂, ◌∙◌, subst, arith}
use Rattle.std.specs.List.{after_first, before_first, cons_option, position_or_len}
use Rattle.std.specs.Option.{option_map}
use Rattle.std.proofs.Math.Seq.{drop-cons}
use Rattle.std.proofs.lemmas.Bool.{lt-ltb}
use Rattle.std.proofs.lemmas.List.{take_more, take-append-drop}
use Rattle.std.proofs.lemmas.List.Elements.{filter_map-append}
use Rattle.bf_interval.specs.declared.interval.Interval.{Interval}
use Rattle.bf_plan.specs.declared.plan.Dag.{Dag}
use Rattle.bf_dependents.specs.declared.place.Place.{Place}
use Rattle.bf_dependents.specs.declared.seeds.Seed.{Seed}
use Rattle.bf_dependents.specs.Seeds.{place_in, places_in}
use Rattle.bf_seeds.specs.declared.fault.SeedsFault.{SeedsFault}
use Rattle.bf_seeds.specs.declared.fault.SeedsFault.TheVariants.{BadFile, BadSeed, Unknown, OutOfMemory}
use Rattle.bf_seeds.specs.Seeds.{split_at_space_of, is_space, parts, ArePlaces, AreSeeds, IsEarliest, IsFaultOfLine, IsFirstFault, IsSeedOf}
use Rattle.bf_seeds.specs.inner.Seeds.{IsPlaceOf}

not_below : (n : ℕ) → nat_lt n n ≡ false
not_below n = grind arith

-- what `split_once` gives is the cut
pub cut_is : (text : List ℕ) (r : Option (Bor (List ℕ) × Bor (List ℕ))) →
    MatchOption r (position_or_len is_space text ≡ length text) (λ x. (position_or_len is_space text < length text) × (x.0.now ≡ before_first is_space text) × (x.1.now ≡ after_first is_space text)) →
    option_map (λ p. (p.0.now, p.1.now)) r ≡ split_at_space_of text
cut_is text None e = sym (ap (λ n. parts (nat_lt n (length text)) text) e ∙ ap (λ b. parts b text) (not_below (length text)))
cut_is text (Some x) (low, first, rest) = (λ i. Some (first i, rest i)) ∙ sym (ap (λ b. parts b text) (lt-ltb (position_or_len is_space text) (length text) low))

module _ (dag : Dag) (intervals : List Interval) where
  snoc : (lines : List (List ℕ)) (seeds : List Seed) (line : List ℕ) (seed : Seed) → AreSeeds dag intervals lines seeds → IsSeedOf dag intervals line seed → AreSeeds dag intervals (lines ++ line ∷ []) (seeds ++ seed ∷ [])
  snoc [] [] line seed are is = (is, tt)
  snoc [] (s ∷ seeds) line seed are is = absurd are
  snoc (l ∷ lines) [] line seed are is = absurd are
  snoc (l ∷ lines) (s ∷ seeds) line seed are is = (are.0, snoc lines seeds line seed are.1 is)

  behind : (seeds : List Seed) (seed : Seed) (places : List Place) (place : Place) → place_in dag intervals seed ≡ Some place → places ≡ places_in dag intervals seeds → places ++ place ∷ [] ≡ places_in dag intervals (seeds ++ seed ∷ [])
  behind seeds seed places place gives so_far = sym (filter_map-append (place_in dag intervals) seeds (seed ∷ []) ∙ ap₂ (λ zs o. zs ++ cons_option o []) (sym so_far) gives)

  -- one line more
  pub one_line : (lines : List (List ℕ)) (i : ℕ) (places : List Place) (place : Place) → i < length lines → ArePlaces dag intervals (take i lines) places → IsPlaceOf dag intervals (get_or lines i []) place →
      ArePlaces dag intervals (take (i + 1) lines) (places ++ place ∷ [])
  one_line lines i places place l are is = (
    are.0 ++ is.0 ∷ [],
    subst (λ (ls : List (List ℕ)). AreSeeds dag intervals ls (are.0 ++ is.0 ∷ [])) (sym (take_more lines i [] l)) (snoc (take i lines) are.0 (get_or lines i []) is.0 are.1 is.1),
    behind are.0 is.0 places place is.2 are.2,
  )

  -- the line at which reading ends
  pub earliest : (lines : List (List ℕ)) (i : ℕ) (places : List Place) (fault : SeedsFault) → i < length lines → ArePlaces dag intervals (take i lines) places → IsFaultOfLine dag intervals (get_or lines i []) fault →
      IsFirstFault dag intervals lines fault
  earliest lines i places fault l are is = go fault is
    where
      split : lines ≡ take i lines ++ get_or lines i [] ∷ drop (suc i) lines
      split = sym (take-append-drop i lines) ∙ ap (λ xs. take i lines ++ xs) (drop-cons lines i [] l)

      at : (f : SeedsFault) → IsFaultOfLine dag intervals (get_or lines i []) f → IsEarliest dag intervals lines f
      at f h = record { before = take i lines; line = get_or lines i []; behind = drop (suc i) lines; parts = split; seeds = are.0; known = are.1; is_fault = h }

      go : (f : SeedsFault) → IsFaultOfLine dag intervals (get_or lines i []) f → IsFirstFault dag intervals lines f
      go BadFile h = absurd h
      go (BadSeed bad) h = at (BadSeed bad) h
      go (Unknown why) h = at (Unknown why) h
      go OutOfMemory h = tt

pub if_none : {A P : Type 0} (o : Option A) → P → IfNone o P
if_none None p = p
if_none (Some x) p = tt
