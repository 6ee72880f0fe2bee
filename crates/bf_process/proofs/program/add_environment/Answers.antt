use Rattle.std.proofs.Common.{None, Some}
use Rattle.std.proofs.lemmas.Result.{on_ok_weaker}
use Rattle.bf_process.proofs.Variables.{said_given}
use Rattle.bf_process.proofs.program.add_environment.Goals as goal

pub returns-in-Some-clause-variables : goal.returns-in-Some-clause-variables
returns-in-Some-clause-variables c =
    on_ok_weaker c.add_variable.result (λ said name. said_given _ _ _ (Some c.in-Some.path.now) c.in-Some.ensures name _ _ _ (c.in_ok-add_common_variables.ensures.variables name) (said name)) c.add_variable.ensures.variable

pub returns-in-None-clause-variables : goal.returns-in-None-clause-variables
returns-in-None-clause-variables c =
    on_ok_weaker c.remove_variable.result (λ said name. said_given _ _ _ None c.in-None.ensures name _ _ _ (c.in_ok-add_common_variables.ensures.variables name) (said name)) c.remove_variable.ensures.variable
