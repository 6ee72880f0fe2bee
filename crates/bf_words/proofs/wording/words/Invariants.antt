use Rattle.std.proofs.Common.{◌≡◌, take}
use Rattle.bf_graph.specs.Shape.{texts}
use Rattle.bf_words.specs.Words.{words_of}
use Rattle.bf_words.proofs.wording.words.Given as goal

-- the words so far
abbrev pub invariant-loop-part : goal.invariant-loop-part
invariant-loop-part l = texts l.words.items ≡ words_of l.context l.given (take l.part-index l.command)
