-- What is found wrong with a graph file.
use Rattle.std.specs.Prelude.{◌≡◌, ◌≢◌, ℕ, ◌<◌, ◌≤◌, ◌==◌, ◌&&◌, ◌||◌, not, nat_eq, nat_lt, Bool, true, false, if◌then◌else◌, List, [], ◌∷◌, ◌++◌, length, map, take, All, Option, Some, None, Ok, Err, ◌⊎◌}
use Rattle.std.specs.List.{list_any}
use Rattle.serde_json.specs.Data.{Data}
use Rattle.bf_read.specs.declared.draft.Draft.{Draft}
use Rattle.bf_read.specs.declared.fault.ReadFault.TheVariants as read
use Rattle.bf_read.specs.declared.path.Path.TheVariants as path
use Rattle.bf_read.specs.declared.keys.TaskKey.TheVariants as key
use Rattle.bf_read.specs.Reading.{data_in, graph_in, graph_file_of}
use Rattle.bf_check.specs.declared.fault.CheckFault.{CheckFault}
use Rattle.bf_check.specs.declared.fault.CheckFault.TheVariants as check
use Rattle.bf_check.specs.declared.fault.TaskFault.TheVariants.{PullNotSettled}
use Rattle.bf_check.specs.Checking.{ids_of, number_of}
use Rattle.bf_check.specs.Refusals.{IsAccepted, IsFaultOf, IsUnsettledPull}
use Rattle.bf_findings.specs.declared.finding.Finding.{Finding}
use Rattle.bf_findings.specs.declared.finding.Finding.TheVariants.{NotJson, Fault, Refused, More}
use Rattle.bf_findings.specs.declared.refusal.Refusal.{Refusal}
use Rattle.bf_findings.specs.declared.refusal.Refusal.TheVariants.{Read, Check, Pull}
use Rattle.bf_findings.specs.declared.finding.Fault.{Fault as PlaceFault}
use Rattle.bf_findings.specs.declared.place.DocumentPlace.{DocumentPlace}
use Rattle.bf_findings.specs.declared.place.DocumentPlace.TheVariants as place
use Rattle.bf_read.specs.Limits.{most_bytes}
use Rattle.bf_findings.specs.Listed.{places_in}
use Rattle.bf_findings.specs.Faults.{AreFaults, IsFault}

-- the bytes say a graph without a fault, with this zone file
pub record IsAcceptedFile (graph : List ℕ) (file : Option (List ℕ)) : Type 0 where
  pub draft : Draft
  pub says : graph_in graph ≡ Ok (graph_file_of draft)
  pub accepted : IsAccepted draft file

-- the bytes say a graph that is refused for this, with this zone file, which isn't want of memory
abbrev pub IsCheckRefusal : List ℕ → Option (List ℕ) → CheckFault → Type 0
IsCheckRefusal graph file fault =
    (draft : Draft) × (graph_in graph ≡ Ok (graph_file_of draft)) × IsFaultOf draft file fault
    × (fault ≢ check.OutOfMemory)

-- in the graph of the bytes the task of an id pulls from the one of another, from which it may not
pub record PullsUnsettledIn (graph task pulled : List ℕ) : Type 0 where
  pub draft : Draft
  pub says : graph_in graph ≡ Ok (graph_file_of draft)
  pub number : ℕ
  pub is_task : number_of (ids_of draft.tasks) task ≡ Some number
  pub unsettled : IsUnsettledPull draft number pulled

-- the fault is that a task pulls from one from which it may not, and this is that one
abbrev pub IsPulled : List ℕ → CheckFault → List ℕ → Type 0
IsPulled graph (check.Task PullNotSettled task) pulled = PullsUnsettledIn graph task pulled
IsPulled graph fault pulled = ⊥

-- the bytes are refused for this, with this zone file, which isn't want of memory
abbrev pub IsRefusal : List ℕ → Option (List ℕ) → Refusal → Type 0
IsRefusal graph file (Read fault) = (graph_in graph ≡ Err fault) × (fault ≢ read.OutOfMemory)
IsRefusal graph file (Check fault) = IsCheckRefusal graph file fault
IsRefusal graph file (Pull fault pulled) =
    IsCheckRefusal graph file fault × IsPulled graph fault pulled

-- what is told is so: the bytes are no JSON, or something is wrong at a place of their document, or the bytes are refused for it.
-- Where there are more is a matter of all that is told
abbrev pub IsFinding : List ℕ → Option (List ℕ) → Finding → Type 0
IsFinding graph file (NotJson line column) = data_in graph ≡ None
IsFinding graph file (Fault fault) = (d : Data) × (data_in graph ≡ Some d) × IsFault file d fault
IsFinding graph file (Refused refusal) = IsRefusal graph file refusal
IsFinding graph file More = Unit {0}

-- the findings of faults: the first hundred, and that there are more
abbrev pub findings_of : List PlaceFault → List Finding
findings_of faults =
    map Fault (take 100 faults) ++ (if nat_lt 100 (length faults) then More ∷ [] else [])

-- the place is the command of the task behind n others, or a word of it
abbrev pub is_in_command : ℕ → DocumentPlace → Bool
is_in_command n (place.TaskKey m key.Command) = m == n
is_in_command n (place.Word m i) = m == n
is_in_command n other = false

abbrev pub is_of_command : ℕ → Finding → Bool
is_of_command n (Fault fault) = is_in_command n fault.place
is_of_command n other = false

-- the refusal is for a limit that none of the findings shows: of edges, or of pulls
abbrev pub is_untold_limit : Refusal → List Finding → Bool
is_untold_limit (Read (read.LimitPassed (path.TaskKey n key.Upstream))) found = true
is_untold_limit (Read (read.LimitPassed (path.TaskKey n key.Command))) found =
    not (list_any (is_of_command n) found)
is_untold_limit refusal found = false

-- why the file is refused is told behind the findings: there are none, or less than a hundred that don't show such a limit
abbrev pub tells_refusal : Refusal → List Finding → Bool
tells_refusal refusal found =
    nat_eq (length found) 0 || (nat_lt (length found) 100 && is_untold_limit refusal found)

abbrev pub with_refusal : Refusal → List Finding → List Finding
with_refusal refusal found =
    found ++ (if tells_refusal refusal found then Refused refusal ∷ [] else [])

-- what is told of bytes before their refusal: that they are no JSON, or what is wrong at the places of their document, in order
abbrev pub IsToldOfData : Option (List ℕ) → Option Data → List Finding → Type 0
IsToldOfData file None found = (line : ℕ) × (column : ℕ) × (found ≡ NotJson line column ∷ [])
IsToldOfData file (Some d) found =
    (faults : List PlaceFault) × AreFaults file d (places_in d) faults × (found ≡ findings_of faults)

-- the same of a whole file, which isn't read where it is too long
abbrev pub IsToldOfFile : List ℕ → Option (List ℕ) → List Finding → Type 0
IsToldOfFile graph file found =
    ((most_bytes < length graph) × (found ≡ []))
    ⊎ ((length graph ≤ most_bytes) × IsToldOfData file (data_in graph) found)

-- what is told of a file that is refused: at most a hundred findings and that there are more, all of them so
pub record AreTold (graph : List ℕ) (file : Option (List ℕ)) (found : List Finding) : Type 0 where
  pub refusal : Refusal
  pub refused : IsRefusal graph file refusal
  pub front : List Finding
  pub is_front : IsToldOfFile graph file front
  pub found_is : found ≡ with_refusal refusal front
  pub some : 0 < length found
  pub few : length found ≤ 101
  pub each : All (IsFinding graph file) found

-- nothing is found where the file is accepted, and something where it is refused
abbrev pub AreFindings : List ℕ → Option (List ℕ) → List Finding → Type 0
AreFindings graph file found = (IsAcceptedFile graph file × (found ≡ [])) ⊎ AreTold graph file found
