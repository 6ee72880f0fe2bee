-- The seeds that texts mean, one after another.
use Rattle.std.proofs.Common.{◌≡◌, ◌<◌, ◌+◌, ℕ, List, [], ◌∷◌, ◌++◌, Contains, length, get_or, string_bytes, take, sym, subst}
use Rattle.std.proofs.lemmas.List.{take_more}
use Rattle.std.proofs.lemmas.List.Elements.{Contains-get_or}
use Rattle.bf_command_line.specs.declared.forms.SeedAsked.{SeedAsked}
use Rattle.bf_dependents.specs.declared.seeds.Seed.{Seed}
use Rattle.bf_command_fault.specs.declared.fault.CommandFault.{CommandFault}
use Rattle.bf_command_fault.specs.declared.fault.CommandFault.TheVariants.{BadMoment, OutOfMemory}
use Rattle.bf_input.specs.Moments.{IsNoMoment}
use Rattle.bf_backfills.specs.Commands.{HasUnmeantRun, MeanSeeds, MeansSeed}
use Rattle.bf_backfills.specs.inner.Named.{IsUnmeant}

snoc : (asked : List SeedAsked) (seeds : List Seed) (one : SeedAsked) (seed : Seed) → MeanSeeds asked seeds → MeansSeed one seed → MeanSeeds (asked ++ one ∷ []) (seeds ++ seed ∷ [])
snoc [] [] one seed mean means = (means, tt)
snoc [] (s ∷ seeds) one seed mean means = absurd mean
snoc (a ∷ asked) [] one seed mean means = absurd mean
snoc (a ∷ asked) (s ∷ seeds) one seed mean means = (mean.0, snoc asked seeds one seed mean.1 means)

-- one text more
pub one_more : (asked : List SeedAsked) (k : ℕ) (one : SeedAsked) (seeds : List Seed) (seed : Seed) → k < length asked → one ≡ get_or asked k one → MeanSeeds (take k asked) seeds → MeansSeed one seed
    → MeanSeeds (take (k + 1) asked) (seeds ++ seed ∷ [])
one_more asked k one seeds seed low there mean means = subst (λ (some : List SeedAsked). MeanSeeds some (seeds ++ seed ∷ [])) (sym (take_more asked k one low))
    (snoc (take k asked) seeds (get_or asked k one) seed mean (subst (λ (a : SeedAsked). MeansSeed a seed) there means))

-- what one of them says is told of all
pub unmeant_at : (asked : List SeedAsked) (k : ℕ) (one : SeedAsked) → k < length asked → one ≡ get_or asked k one → (fault : CommandFault) → IsUnmeant (IsNoMoment (string_bytes one.run)) fault → IsUnmeant (HasUnmeantRun asked) fault
unmeant_at asked k one low there BadMoment is = (one, subst (Contains asked) (sym there) (Contains-get_or asked k one low), is)
unmeant_at asked k one low there OutOfMemory is = tt
unmeant_at asked k one low there fault is = absurd is
