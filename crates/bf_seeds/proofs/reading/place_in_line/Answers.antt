use Rattle.std.proofs.Common.{◌≡◌, List, ℕ, sym, subst}
use Rattle.bf_dependents.specs.declared.seeds.Seed.{Seed}
use Rattle.bf_seeds.specs.declared.line.Words.{Words}
use Rattle.bf_seeds.specs.Seeds.{SpellsSeed}
use Rattle.bf_seeds.specs.inner.Words.{seed_of}
use Rattle.bf_seeds.proofs.reading.place_in_line.Goals as goal

-- the seed of the words, with a copy of the task
abbrev copied : Words → List ℕ → Seed
copied words task = record { task = task; run = words.run; index = words.index }

spells : (line : List ℕ) (words : Words) (task : List ℕ) → task ≡ words.task.now → SpellsSeed line (seed_of words) → SpellsSeed line (copied words task)
spells line words task same is = subst (λ (t : List ℕ). SpellsSeed line (copied words t)) (sym same) is

pub returns-in-Ok-clause-ok : goal.returns-in-Ok-clause-ok
returns-in-Ok-clause-ok c = (
  copied c.in-Some.words c.in_ok-task.task,
  (spells c.args.line.now c.in-Some.words c.in_ok-task.task c.in_ok-task.ensures c.in-Some.ensures.found, c.in-Ok.ensures.known),
  c.in-Ok.ensures.ok,
)

pub returns-clause-err : goal.returns-clause-err
returns-clause-err c = (
  copied c.in-Some.words c.in_ok-task.task,
  spells c.args.line.now c.in-Some.words c.in_ok-task.task c.in_ok-task.ensures c.in-Some.ensures.found,
  c.in-Err.ensures.err,
)
