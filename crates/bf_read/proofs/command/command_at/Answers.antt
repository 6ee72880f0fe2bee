use Rattle.std.proofs.Common.{arith}
use Rattle.bf_read.specs.Drafts.{distinct_texts_of}
use Rattle.bf_read.proofs.command.command_at.Goals as goal

pub returns-then-is_none-clause-few_pulls : goal.returns-then-is_none-clause-few_pulls
unfolding distinct_texts_of
returns-then-is_none-clause-few_pulls c = rw c.new.ensures (omega arith)
