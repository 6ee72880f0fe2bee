use Rattle.std.proofs.Common.{◌≡◌, ◌++◌, map}
use Rattle.std.specs.Vec.Iter.{into_iter_items}
use Rattle.bf_check.specs.Checking.{word_in}
use Rattle.bf_check.proofs.tasks.words_of.Given as goal

abbrev pub invariant-loop-word : goal.invariant-loop-word
invariant-loop-word l = record {
  made : l.words.items ≡ map (word_in l.pulled) l.yielded;
  left : l.yielded ++ into_iter_items l.word-iterator ≡ l.fn.drafts;
}
