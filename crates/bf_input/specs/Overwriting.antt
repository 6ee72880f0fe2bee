-- Which files of a line a report may not be written over.
use Rattle.std.specs.Prelude.{◌≢◌, ◌⊎◌, ℕ, Bool, true, false, if◌then◌else◌, List, Option, None, Some, bytes_eq, option_map, string_bytes}
use Rattle.bf_command_line.specs.declared.forms.Asked.{Asked}
use Rattle.bf_command_line.specs.declared.forms.GraphAsked.{GraphAsked}
use Rattle.bf_command_line.specs.Naming.{graph_of, journal_of, launcher_of, report_of, seeds_of, table_of}

-- of a path that a line names, and another path, where it is told: whether the first leads to the other's file
abbrev pub Leading : Type 0
Leading = List ℕ → List ℕ → Option Bool

-- what is told of files, and of launchers
pub record Leads : Type 0 where
  pub same : Leading
  pub started : Leading

abbrev pub leads_of : Leading → Leading → Leads
leads_of same started = record { same = same; started = started }

-- it isn't told that what is named, if something is, leads elsewhere
abbrev pub MayLead : Leading → Option (List ℕ) → List ℕ → Type 0
MayLead leads None path = ⊥
MayLead leads (Some named) path = leads named path ≢ Some false

-- it isn't told that what is named, if something is, leads to the path's file
abbrev pub MayMiss : Leading → Option (List ℕ) → List ℕ → Type 0
MayMiss leads None path = Unit {0}
MayMiss leads (Some named) path = leads named path ≢ Some true

-- the paths of the graph file, and of the zone file
abbrev pub graph_path : Option GraphAsked → Option (List ℕ)
graph_path None = None
graph_path (Some graph) = Some (string_bytes graph.graph)

abbrev pub zone_path : Option GraphAsked → Option (List ℕ)
zone_path None = None
zone_path (Some graph) = option_map string_bytes graph.zone_file

-- a report, but where the path is spelled the same: that one may be replaced
abbrev pub other_than : Option (List ℕ) → List ℕ → Option (List ℕ)
other_than None path = None
other_than (Some report) path = if bytes_eq report path then None else Some report

-- a graph file, a zone file, a table, seeds, a journal, a report of another path, or a launcher
abbrev pub IsOverwriting : Leads → Asked → List ℕ → Type 0
IsOverwriting leads asked path = MayLead leads.same (graph_path (graph_of asked)) path
    ⊎ (MayLead leads.same (zone_path (graph_of asked)) path
    ⊎ (MayLead leads.same (table_of asked) path
    ⊎ (MayLead leads.same (seeds_of asked) path
    ⊎ (MayLead leads.same (journal_of asked) path
    ⊎ (MayLead leads.same (other_than (report_of asked) path) path
    ⊎ MayLead leads.started (launcher_of asked) path)))))

-- none of these
abbrev pub IsSparing : Leads → Asked → List ℕ → Type 0
IsSparing leads asked path = MayMiss leads.same (graph_path (graph_of asked)) path
    × MayMiss leads.same (zone_path (graph_of asked)) path
    × MayMiss leads.same (table_of asked) path
    × MayMiss leads.same (seeds_of asked) path
    × MayMiss leads.same (journal_of asked) path
    × MayMiss leads.same (other_than (report_of asked) path) path
    × MayMiss leads.started (launcher_of asked) path
