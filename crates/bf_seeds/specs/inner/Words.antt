-- The words of a line, while it is read.
use Rattle.bf_dependents.specs.declared.seeds.Seed.{Seed}
use Rattle.bf_seeds.specs.declared.line.Words.{Words}

-- the seed of the words
abbrev pub seed_of : Words → Seed
seed_of words = record { task = words.task.now; run = words.run; index = words.index }
