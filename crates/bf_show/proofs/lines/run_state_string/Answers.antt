use Rattle.std.proofs.Common.{rules}
use Rattle.json.proofs.OnLiterals.{json_on_literals}
use Rattle.bf_show.proofs.lines.run_state_string.Goals as goal

pub returns-in-Success : goal.returns-in-Success
unfolding json_on_literals
returns-in-Success c = search rules

pub returns-in-Failed : goal.returns-in-Failed
unfolding json_on_literals
returns-in-Failed c = search rules
