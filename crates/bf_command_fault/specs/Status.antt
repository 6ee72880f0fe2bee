-- Exit statuses.
use Rattle.std.specs.Prelude.{ℕ, Bool, true, false}
use Rattle.bf_command_fault.specs.declared.status.Status.{Status}
use Rattle.bf_command_fault.specs.declared.status.Status.TheVariants.{Success, Failed, Refused, Fault}

-- where every run is a success, and where some run is not
abbrev pub of_runs : Bool → Status
of_runs true = Success
of_runs false = Failed

abbrev pub code_of : Status → ℕ
code_of Success = 0
code_of Failed = 1
code_of Refused = 2
code_of Fault = 3
