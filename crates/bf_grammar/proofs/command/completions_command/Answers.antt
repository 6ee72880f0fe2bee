use Rattle.std.proofs.Common.{refl}
use Rattle.bf_grammar.proofs.command.completions_command.Goals as goal

pub returns : goal.returns
returns c = c.arg.ensures _ _ c.new.ensures c.positional.ensures refl
