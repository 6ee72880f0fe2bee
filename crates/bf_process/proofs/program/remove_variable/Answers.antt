use Rattle.std.proofs.Common.{rules}
use Rattle.bf_process.proofs.Variables.{said_one}
use Rattle.bf_process.proofs.program.remove_variable.Goals as goal

pub returns-clause-variable : goal.returns-clause-variable
returns-clause-variable c = said_one _ _ _ _ (search rules) (λ k apart. search rules)
