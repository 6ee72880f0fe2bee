-- Files that say alike have one answer, and one fault.
use Rattle.std.proofs.Common.{◌≡◌, ℕ, ℤ, Bool, List, Option, Result, sym, ◌∙◌}
use Rattle.jiff.specs.declared.timestamp.Timestamp.{Timestamp}
use Rattle.bf_read.specs.declared.draft.Draft.{Draft}
use Rattle.bf_check.specs.declared.fault.CheckFault.{CheckFault}
use Rattle.bf_check.specs.declared.fault.CheckFault.TheVariants as check
use Rattle.bf_check.specs.Refusals.{IsAccepted, IsFaultOf}
use Rattle.bf_check.specs.Schedules.{IsScheduled}
use Rattle.bf_interval.specs.declared.interval.Interval.{Interval}
use Rattle.bf_table.specs.Tables.{table_in}
use Rattle.bf_command_fault.specs.declared.fault.CommandFault.{CommandFault}
use Rattle.bf_command_fault.specs.declared.fault.CommandFault.TheVariants.{Read, Check, Table, Range, CannotWrite, Stopped}
use Rattle.bf_command_fault.specs.declared.range.RangeFault.{RangeFault}
use Rattle.bf_planning.specs.declared.check.GraphSize.{GraphSize}
use Rattle.bf_planning.specs.declared.range.RunRange.{RunRange}
use Rattle.bf_commands.specs.DatedRuns.{DryFault, IsDryReport}
use Rattle.bf_planning.specs.Graphs.{IsFaultIn, IsFileOf, IsGraph, IsSizeOf}
use Rattle.bf_commands.specs.Journaled.{IsJournaledReport}
use Rattle.bf_planning.specs.Lists.{HasListing, ListFault, IsListIn}
use Rattle.bf_commands.specs.OneRun.{SingleFault, IsSingleReport}
use Rattle.bf_planning.specs.Tables.{IsTable}
use Rattle.bf_process.specs.Words.{LaunchingOf}
use Rattle.bf_planning.specs.Clocks.{AreClocksOf}
use Rattle.bf_commands.specs.Programs.{Hearing, Losing, RunFault, IsRunReport}
use Rattle.bf_input.specs.Inputs.{AreAlike}

module _ (read held : List ℕ) (one two : Option (List ℕ)) (alike : AreAlike read held one two) where
  scheduled : (draft : Draft) → IsScheduled draft one → IsScheduled draft two
  scheduled draft is = record { spec = is.spec; fires = is.fires; zone = is.zone; zone_is = λ z lends. alike.means.to _ z (is.zone_is z lends) }

  accepted : (draft : Draft) → IsAccepted draft one → IsAccepted draft two
  accepted draft is = record { graph = is.graph; scheduled = scheduled draft is.scheduled }

  fault_of : (draft : Draft) (fault : CheckFault) → IsFaultOf draft one fault → IsFaultOf draft two fault
  fault_of draft (check.Task fault id) is = (is.0, is.1, λ late. scheduled draft (is.2 late))
  fault_of draft check.BadZone is = (λ z means. is.0 z (alike.means.back _ z means), is.1, is.2, is.3)
  fault_of draft fault is = is

  file_of : (draft : Draft) → IsFileOf read draft → IsFileOf held draft
  file_of draft is = sym alike.says ∙ is

  pub graph_of : (draft : Draft) → IsGraph read one draft → IsGraph held two draft
  graph_of draft is = record { says = file_of draft is.says; accepted = accepted draft is.accepted; sound = is.sound }

  pub fault_in : (fault : CommandFault) → IsFaultIn read one fault → IsFaultIn held two fault
  fault_in (Read fault) is = sym alike.says ∙ is
  fault_in (Check fault) is = (is.0, file_of is.0 is.1, fault_of is.0 fault is.2)
  fault_in fault is = is

  pub size_of : (size : GraphSize) → IsSizeOf read one size → IsSizeOf held two size
  size_of size is = record { draft = is.draft; graph_is = graph_of is.draft is.graph_is; size_is = is.size_is }

  pub listing_of : (range : RunRange) (answer : Result (List Interval) RangeFault) → HasListing read one range answer → HasListing held two range answer
  listing_of range answer is = record {
    draft = is.draft;
    graph_is = graph_of is.draft is.graph_is;
    schedule = is.schedule;
    fires = is.fires;
    zone = is.zone;
    zone_is = alike.means.to _ is.zone is.zone_is;
    answers = is.answers;
  }

  pub list_of : (range : RunRange) (text : List ℕ) → IsListIn read one range text → IsListIn held two range text
  list_of range text is = record { found = is.found; listing = listing_of range _ is.listing; text_is = is.text_is }

  pub list_fault : (range : RunRange) (fault : CommandFault) → ListFault read one range fault → ListFault held two range fault
  list_fault range (Range fault) is = listing_of range _ is
  list_fault range (CannotWrite n) is = tt
  list_fault range fault is = fault_in fault is

  pub clocks_alike : (found : List Interval) (clocks : List ℤ) → AreClocksOf read one found clocks → AreClocksOf held two found clocks
  clocks_alike found clocks are = record { draft = are.draft; graph_is = graph_of are.draft are.graph_is; zone = are.zone; zone_is = alike.means.to _ are.zone are.zone_is; clocks_are = are.clocks_are }

  pub run_report : (launching : LaunchingOf) (may_hear : Hearing) (range : RunRange) (text : List ℕ) (success : Bool) → IsRunReport launching may_hear read one range text success
      → IsRunReport launching may_hear held two range text success
  run_report launching may_hear range text success is = record {
    draft = is.draft;
    found = is.found;
    graph_is = graph_of is.draft is.graph_is;
    listing = listing_of range _ is.listing;
    clocks = is.clocks;
    clocks_are = clocks_alike is.found is.clocks is.clocks_are;
    reported = is.reported;
  }

  pub journaled_report : (launching : LaunchingOf) (may_hear : Hearing) (retry : Bool) (bytes : List ℕ) (range : RunRange) (text : List ℕ) (success : Bool) → IsJournaledReport launching may_hear read one retry bytes range text success
      → IsJournaledReport launching may_hear held two retry bytes range text success
  journaled_report launching may_hear retry bytes range text success is = record {
    draft = is.draft;
    found = is.found;
    graph_is = graph_of is.draft is.graph_is;
    listing = listing_of range _ is.listing;
    clocks = is.clocks;
    clocks_are = clocks_alike is.found is.clocks is.clocks_are;
    reported = is.reported;
  }

  pub run_fault : (launching : LaunchingOf) (may_lose : Losing) (range : RunRange) (fault : CommandFault) → RunFault launching may_lose read one range fault → RunFault launching may_lose held two range fault
  run_fault launching may_lose range (Stopped stop) is = record {
    draft = is.draft;
    found = is.found;
    graph_is = graph_of is.draft is.graph_is;
    listing = listing_of range _ is.listing;
    clocks = is.clocks;
    clocks_are = clocks_alike is.found is.clocks is.clocks_are;
    stops = is.stops;
  }
  run_fault launching may_lose range fault is = list_fault range fault is

  module _ (table other : List ℕ) (same : table_in table ≡ table_in other) where
    a_table : IsTable table → IsTable other
    a_table is = record { entries = is.entries; says = sym same ∙ is.says }

    pub report_at : (at : Timestamp) (text : List ℕ) (success : Bool) → IsSingleReport read one table at text success → IsSingleReport held two other at text success
    report_at at text success is = record {
      draft = is.draft;
      entries = is.entries;
      graph_is = graph_of is.draft is.graph_is;
      table_says = sym same ∙ is.table_says;
      in_years = is.in_years;
      reported = is.reported;
    }

    pub report_in : (range : RunRange) (text : List ℕ) (success : Bool) → IsDryReport read one table range text success → IsDryReport held two other range text success
    report_in range text success is = record {
      draft = is.draft;
      entries = is.entries;
      found = is.found;
      graph_is = graph_of is.draft is.graph_is;
      table_says = sym same ∙ is.table_says;
      listing = listing_of range _ is.listing;
      reported = is.reported;
    }

    pub single_fault : (at : Timestamp) (fault : CommandFault) → SingleFault read one table at fault → SingleFault held two other at fault
    single_fault at (Table fault) is = (is.0, graph_of is.0 is.1, sym same ∙ is.2)
    single_fault at (Range fault) is = (is.0, graph_of is.0 is.1, a_table is.2, is.3, is.4)
    single_fault at (CannotWrite n) is = tt
    single_fault at fault is = fault_in fault is

    pub dry_fault : (alone : Bool) (range : RunRange) (fault : CommandFault) → DryFault alone read one table range fault → DryFault alone held two other range fault
    dry_fault alone range (Table fault) is = (is.0, graph_of is.0 is.1, sym same ∙ is.2)
    dry_fault alone range (Range fault) is = (a_table is.0, listing_of range _ is.1)
    dry_fault alone range (CannotWrite n) is = tt
    dry_fault alone range (Stopped stop) is = (is.0, a_table is.1, listing_of range _ is.2, is.3, is.4)
    dry_fault alone range fault is = fault_in fault is
