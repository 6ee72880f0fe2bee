-- The faults of graphs, of ranges and of writing.
use Rattle.std.proofs.Common.{◌≡◌, ℕ, List, Option, Err}
use Rattle.bf_device.specs.declared.sending.Cause.{Cause}
use Rattle.bf_device.specs.declared.sending.Cause.TheVariants as cause
use Rattle.bf_device.specs.declared.sending.WriteFault.{WriteFault}
use Rattle.bf_read.specs.declared.draft.Draft.{Draft}
use Rattle.bf_read.specs.declared.fault.ReadFault.{ReadFault}
use Rattle.bf_read.specs.declared.fault.ReadFault.TheVariants as read
use Rattle.bf_read.specs.Gives.{Fails}
use Rattle.bf_read.specs.Reading.{graph_in}
use Rattle.bf_check.specs.declared.fault.CheckFault.{CheckFault}
use Rattle.bf_check.specs.declared.fault.CheckFault.TheVariants as check
use Rattle.bf_check.specs.Refusals.{IsFaultOf}
use Rattle.bf_interval.specs.declared.fault.IntervalFault.{IntervalFault}
use Rattle.bf_interval.specs.declared.fault.IntervalFault.TheVariants as interval
use Rattle.bf_command_fault.specs.Refusal.{of_cause, of_check, of_range, of_read, of_write}
use Rattle.bf_command_fault.specs.declared.fault.CommandFault.{CommandFault}
use Rattle.bf_command_fault.specs.declared.fault.CommandFault.TheVariants.{OutOfMemory, CannotWrite}
use Rattle.bf_command_fault.specs.declared.range.RangeFault.TheVariants.{Unlisted}
use Rattle.bf_planning.specs.declared.range.RunRange.{RunRange}
use Rattle.bf_planning.specs.Graphs.{IsFaultIn, IsFileOf}
use Rattle.bf_planning.specs.Lists.{HasListing, ListFault, IsRangeFault}
use Rattle.bf_planning.specs.Wanting.{IsWanting}

pub read_fault : (graph : List ℕ) (file : Option (List ℕ)) (fault : ReadFault) → Fails fault (graph_in graph) → IsFaultIn graph file (of_read fault)
read_fault graph file read.OutOfMemory is = tt
read_fault graph file _ is = is

pub check_fault : (graph : List ℕ) (file : Option (List ℕ)) (draft : Draft) → IsFileOf graph draft → (fault : CheckFault) → IsFaultOf draft file fault → IsFaultIn graph file (of_check fault)
check_fault graph file draft says check.OutOfMemory is = tt
check_fault graph file draft says _ is = (draft, says, is)

pub range_fault : (graph : List ℕ) (file : Option (List ℕ)) (range : RunRange) (fault : IntervalFault) → HasListing graph file range (Err (Unlisted fault)) → IsRangeFault graph file range (of_range fault)
range_fault graph file range interval.OutOfMemory is = tt
range_fault graph file range _ is = is

wanting_by : (c : Cause) (n : ℕ) → IsWanting (of_cause c n)
wanting_by cause.Io n = tt
wanting_by cause.OutOfMemory n = tt

pub write_wanting : (fault : WriteFault) → IsWanting (of_write fault)
write_wanting fault = wanting_by fault.cause fault.sent

module _ (P : CommandFault → Type 0) where
  -- memory is wanting, or room to write
  pub wanting_cases : P OutOfMemory → ((n : ℕ) → P (CannotWrite n)) → (fault : CommandFault) → IsWanting fault → P fault
  wanting_cases memory write OutOfMemory is = memory
  wanting_cases memory write (CannotWrite n) is = write n
  wanting_cases memory write _ is = absurd is

module _ (graph : List ℕ) (file : Option (List ℕ)) (range : RunRange) where
  pub list_wanting : (fault : CommandFault) → IsWanting fault → ListFault graph file range fault
  list_wanting = wanting_cases (ListFault graph file range) tt (λ n. tt)
