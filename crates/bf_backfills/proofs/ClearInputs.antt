-- What the files of `clear` say, and what is named to be cleared in their report.
use Rattle.std.proofs.Common.{◌≡◌, ℕ, ℤ, List, Option, Some, Vec, IfSome, option_map, string_bytes, refl, sym, ap, ◌∙◌, subst, inl, inr}
use Rattle.std.specs.Global.{Global}
use Rattle.bf_plan.specs.declared.plan.Dag.{Dag}
use Rattle.bf_interval.specs.declared.interval.Interval.{Interval}
use Rattle.bf_table.specs.declared.table.TableEntry.{TableEntry}
use Rattle.bf_table.specs.Tables.{table_in}
use Rattle.bf_report.specs.declared.report.Report.{Report as Reported}
use Rattle.bf_report_reader.specs.declared.fault.ReportFault.TheVariants as report
use Rattle.bf_dependents.specs.declared.seeds.Seed.{Seed}
use Rattle.bf_commands.specs.declared.cleared.ToClear.{ToClear}
use Rattle.bf_commands.specs.declared.cleared.ToClear.TheVariants as to_clear
use Rattle.bf_command_line.specs.declared.forms.ClearedAsked.{ClearedAsked}
use Rattle.bf_command_line.specs.declared.forms.ClearedAsked.TheVariants as asking
use Rattle.bf_command_line.specs.declared.forms.GraphAsked.{GraphAsked}
use Rattle.bf_command_fault.specs.Refusal.{Leaves}
use Rattle.bf_command_fault.specs.declared.fault.CommandFault.{CommandFault}
use Rattle.bf_command_fault.specs.declared.fault.CommandFault.TheVariants.{Read, Check, Table, Range, Report, Clear, Seeds, OutOfMemory, CannotRead}
use Rattle.bf_planning.specs.declared.range.RunRange.{RunRange}
use Rattle.bf_report_reader.specs.Reading.{IsReadAs}
use Rattle.bf_commands.specs.Cleared.{IsFaultBefore, IsPrepared, IsReady, IsUnclearable, IsUncleared}
use Rattle.bf_commands.proofs.Faults.{unwritten_leaves}
use Rattle.bf_disk.specs.Files.{AreReadable, Files, IsHeld, IsHeldIfNamed, IsReadable, IsUntold}
use Rattle.bf_disk.specs.Source.{IsWholeUpTo}
use Rattle.bf_input.specs.Inputs.{AreAlike, IsReportFault, OfFilesAndNamedTable, clear_paths}
use Rattle.bf_backfills.specs.Commands.{ClearInput, MeanSeeds, MeansCleared, first_paths, seeds_named}
use Rattle.bf_backfills.specs.CommandFaults.{IsFaultOfClearInput, OfReadClearFiles}
use Rattle.bf_backfills.specs.declared.named.UnreadToClear.{UnreadToClear}
use Rattle.bf_backfills.specs.declared.named.UnreadToClear.TheVariants as naming
use Rattle.bf_backfills.specs.inner.Named.{IsReadFor, MeansNamed, path_of}
use Rattle.bf_backfills.specs.inner.Files.{IsFaultBeforeClearing, IsOfBytes, IsPreparingFault}
use Rattle.bf_backfills.proofs.Alike.{clocks_alike, fault_in, graph_of, listing_of}
use Rattle.bf_backfills.proofs.Exits.{reading_cases}

-- nothing went out before what is to be cleared is looked for
pub reading_leaves : (Halted : Type 0) (IsDue : List ℕ → Type 0) (before : Option (List ℕ)) (files : Files) (asked : GraphAsked) (path : Option (List ℕ)) (named : UnreadToClear) (range : RunRange) (report : List ℕ) (fault : CommandFault)
    → IsFaultBeforeClearing files asked path named range report fault → Leaves Halted IsDue before before fault
reading_leaves Halted IsDue before files asked path named range report fault is =
    unwritten_leaves Halted IsDue before (IsFaultBeforeClearing files asked path named range report)
    (λ n written. elim written [ inl preparing ↦ elim preparing [ inl reading ↦ reading | inr said ↦ said.1.holds ] | inr reported ↦ reported.3 ]) fault is

-- ---- by what the files are told to hold

-- reading other files leaves what is told of one
pub held_stays : (before after : Files) (path held : Option (List ℕ)) → ((p : List ℕ) → after p ≡ before p) → IsHeldIfNamed before path held → IsHeldIfNamed after path held
held_stays before after (Some p) (Some bytes) stays is = stays p ∙ is
held_stays before after path held stays is = is

module _ (read held : List ℕ) (one two : Option (List ℕ)) (alike : AreAlike read held one two) (table other : Option (List ℕ)) (same : option_map table_in table ≡ option_map table_in other) (range : RunRange) where
  before_alike : (fault : CommandFault) → IsFaultBefore read one table range fault → IsFaultBefore held two other range fault
  before_alike (Table fault) is = (is.0, graph_of read held one two alike is.0 is.1, sym same ∙ is.2)
  before_alike (Range fault) is = (is.0, sym same ∙ is.1, listing_of read held one two alike range _ is.2)
  before_alike fault is = fault_in read held one two alike fault is

  pub prepared_alike : (dag : Dag) (found : List Interval) (clocks : List ℤ) (answers : Option (List TableEntry)) → IsPrepared read one table range dag found clocks answers → IsPrepared held two other range dag found clocks answers
  prepared_alike dag found clocks answers is = record {
    draft = is.draft;
    graph_is = graph_of read held one two alike is.draft is.graph_is;
    dag_is = is.dag_is;
    table_says = sym same ∙ is.table_says;
    listing = listing_of read held one two alike range _ is.listing;
    clocks_are = clocks_alike read held one two alike found clocks is.clocks_are;
  }

  ready_alike : IsReady read one table range → IsReady held two other range
  ready_alike is = record { dag = is.dag; found = is.found; clocks = is.clocks; answers = is.answers; prepared = prepared_alike is.dag is.found is.clocks is.answers is.prepared }

-- ---- what is named to be cleared

-- the path that is named
pub path_named : (asked : ClearedAsked) (named : UnreadToClear) → MeansNamed asked named → path_of named ≡ seeds_named asked
path_named (asking.Seeds asked) (naming.Seeds seeds) means = refl
path_named (asking.File path) (naming.File same) means = ap Some means
path_named asking.Failed naming.Failed means = refl
path_named asking.Nothing naming.Nothing means = refl
path_named (asking.Seeds asked) (naming.File same) means = absurd means
path_named (asking.Seeds asked) naming.Failed means = absurd means
path_named (asking.Seeds asked) naming.Nothing means = absurd means
path_named (asking.File path) (naming.Seeds seeds) means = absurd means
path_named (asking.File path) naming.Failed means = absurd means
path_named (asking.File path) naming.Nothing means = absurd means
path_named asking.Failed (naming.Seeds seeds) means = absurd means
path_named asking.Failed (naming.File same) means = absurd means
path_named asking.Failed naming.Nothing means = absurd means
path_named asking.Nothing (naming.Seeds seeds) means = absurd means
path_named asking.Nothing (naming.File same) means = absurd means
path_named asking.Nothing naming.Failed means = absurd means

-- what was read for it is what the line means
pub read_means : (files : Files) (asked : ClearedAsked) (named : UnreadToClear) (what : ToClear) → MeansNamed asked named → IsReadFor files named what → MeansCleared files asked what
read_means files (asking.Seeds asked) (naming.Seeds seeds) (to_clear.Seeds same) means is = subst (λ (v : Vec Seed Global). MeanSeeds asked.items v.items) (sym is) means
read_means files (asking.File path) (naming.File same) (to_clear.File bytes) means is = subst (λ (p : List ℕ). IfSome (files p) (λ held. IsWholeUpTo 8_388_608 held bytes.items)) means is
read_means files asking.Failed naming.Failed to_clear.Failed means is = tt
read_means files asking.Nothing naming.Nothing to_clear.Nothing means is = tt
read_means files (asking.Seeds asked) (naming.Seeds seeds) (to_clear.File bytes) means is = absurd is
read_means files (asking.Seeds asked) (naming.Seeds seeds) to_clear.Failed means is = absurd is
read_means files (asking.Seeds asked) (naming.Seeds seeds) to_clear.Nothing means is = absurd is
read_means files (asking.File path) (naming.File same) (to_clear.Seeds others) means is = absurd is
read_means files (asking.File path) (naming.File same) to_clear.Failed means is = absurd is
read_means files (asking.File path) (naming.File same) to_clear.Nothing means is = absurd is
read_means files asking.Failed naming.Failed (to_clear.Seeds others) means is = absurd is
read_means files asking.Failed naming.Failed (to_clear.File bytes) means is = absurd is
read_means files asking.Failed naming.Failed to_clear.Nothing means is = absurd is
read_means files asking.Nothing naming.Nothing (to_clear.Seeds others) means is = absurd is
read_means files asking.Nothing naming.Nothing (to_clear.File bytes) means is = absurd is
read_means files asking.Nothing naming.Nothing to_clear.Failed means is = absurd is
read_means files (asking.Seeds asked) (naming.File same) what means is = absurd means
read_means files (asking.Seeds asked) naming.Failed what means is = absurd means
read_means files (asking.Seeds asked) naming.Nothing what means is = absurd means
read_means files (asking.File path) (naming.Seeds seeds) what means is = absurd means
read_means files (asking.File path) naming.Failed what means is = absurd means
read_means files (asking.File path) naming.Nothing what means is = absurd means
read_means files asking.Failed (naming.Seeds seeds) what means is = absurd means
read_means files asking.Failed (naming.File same) what means is = absurd means
read_means files asking.Failed naming.Nothing what means is = absurd means
read_means files asking.Nothing (naming.Seeds seeds) what means is = absurd means
read_means files asking.Nothing (naming.File same) what means is = absurd means
read_means files asking.Nothing naming.Failed what means is = absurd means

-- reading other files leaves what is told of one
pub read_stays : (before after : Files) (named : UnreadToClear) (what : ToClear) → ((p : List ℕ) → after p ≡ before p) → IsReadFor after named what → IsReadFor before named what
read_stays before after (naming.Seeds seeds) (to_clear.Seeds same) stays is = is
read_stays before after (naming.File path) (to_clear.File bytes) stays is = subst (λ (o : Option (Option (List ℕ))). IfSome o (λ held. IsWholeUpTo 8_388_608 held bytes.items)) (stays (string_bytes path)) is
read_stays before after naming.Failed to_clear.Failed stays is = tt
read_stays before after naming.Nothing to_clear.Nothing stays is = tt
read_stays before after (naming.Seeds seeds) (to_clear.File bytes) stays is = absurd is
read_stays before after (naming.Seeds seeds) to_clear.Failed stays is = absurd is
read_stays before after (naming.Seeds seeds) to_clear.Nothing stays is = absurd is
read_stays before after (naming.File path) (to_clear.Seeds others) stays is = absurd is
read_stays before after (naming.File path) to_clear.Failed stays is = absurd is
read_stays before after (naming.File path) to_clear.Nothing stays is = absurd is
read_stays before after naming.Failed (to_clear.Seeds others) stays is = absurd is
read_stays before after naming.Failed (to_clear.File bytes) stays is = absurd is
read_stays before after naming.Failed to_clear.Nothing stays is = absurd is
read_stays before after naming.Nothing (to_clear.Seeds others) stays is = absurd is
read_stays before after naming.Nothing (to_clear.File bytes) stays is = absurd is
read_stays before after naming.Nothing to_clear.Failed stays is = absurd is

-- ---- the files, with `--plan` too

module _ (files : Files) (input : ClearInput) (range : RunRange) where
  before_held : (fault : CommandFault) → IsOfBytes files input.graph input.table (λ graph zone table. IsFaultBefore graph zone table range fault)
      → OfFilesAndNamedTable files input.graph input.table (λ graph held other. IsFaultBefore graph held other range fault)
  before_held fault said graph held other are holds =
      let same = said.alike graph held other are holds in
      before_alike said.graph graph said.zone held same.0 said.table other same.1 range fault said.holds

  before_report : (fault : CommandFault) → AreReadable files (first_paths input)
      → IsOfBytes files input.graph input.table (λ graph zone table. IsFaultBefore graph zone table range fault) → IsFaultOfClearInput files input range fault
  before_report (Read fault) readable said = (readable, before_held (Read fault) said)
  before_report (Check fault) readable said = (readable, before_held (Check fault) said)
  before_report (Table fault) readable said = (readable, before_held (Table fault) said)
  before_report (Range fault) readable said = (readable, before_held (Range fault) said)
  before_report OutOfMemory readable said = tt
  before_report fault readable said = absurd said.holds

  -- a fault before the report is read is the command's
  preparing : (fault : CommandFault) → IsPreparingFault files input.graph input.table (seeds_named input.cleared) range fault → IsFaultOfClearInput files input range fault
  preparing fault (inl reading) = reading_cases files (first_paths input) (IsFaultOfClearInput files input range) tt (λ path unread. inl unread) fault reading
  preparing fault (inr (readable, said)) = before_report fault readable said

  ready_held : IsOfBytes files input.graph input.table (λ graph zone table. IsReady graph zone table range) → OfFilesAndNamedTable files input.graph input.table (λ graph held other. IsReady graph held other range)
  ready_held said graph held other are holds =
      let same = said.alike graph held other are holds in
      ready_alike said.graph graph said.zone held same.0 said.table other same.1 range said.holds

  unreported : AreReadable files (first_paths input) → (what : ToClear) → MeansCleared files input.cleared what → IsOfBytes files input.graph input.table (λ graph zone table. IsReady graph zone table range)
      → (fault : CommandFault) → IsReportFault input.report (files input.report) fault → IsFaultOfClearInput files input range fault
  unreported readable what means_what said (Report report.Io) is = absurd is
  unreported readable what means_what said (Report fault) is = (readable, is.0, what, means_what, λ graph held other are holds reported told. (ready_held said graph held other are holds, is.1 reported told))
  unreported readable what means_what said OutOfMemory is = tt
  unreported readable what means_what said (CannotRead path) is = inr (readable, is.0, subst (λ (p : List ℕ). IsUntold (files p)) (sym is.0) is.1, ready_held said)
  unreported readable what means_what said fault is = absurd is

  module _ (dag : Dag) (found : List Interval) (clocks : List ℤ) (answers : Option (List TableEntry)) (readable : AreReadable files (first_paths input)) (what : ToClear) (means_what : MeansCleared files input.cleared what)
      (said : IsOfBytes files input.graph input.table (λ graph zone table. IsPrepared graph zone table range dag found clocks answers)) where
    abbrev pub prepared_held : OfFilesAndNamedTable files input.graph input.table (λ graph held other. IsPrepared graph held other range dag found clocks answers)
    prepared_held graph held other are holds =
        let same = said.alike graph held other are holds in
        prepared_alike said.graph graph said.zone held same.0 said.table other same.1 range dag found clocks answers said.holds

    abbrev pub ready : OfFilesAndNamedTable files input.graph input.table (λ graph held other. IsReady graph held other range)
    ready graph held other are holds = record { dag = dag; found = found; clocks = clocks; answers = answers; prepared = prepared_held graph held other are holds }

    module _ (report_readable : IsReadable (files input.report)) (was : Reported) (says : (held : List ℕ) → IsHeld (files input.report) held → IsReadAs held was) where
      unclearable : (fault : CommandFault) → IsUncleared dag found was what fault
          → OfReadClearFiles files input (λ what graph zone table report. IsUnclearable graph zone table report range what fault)
      unclearable fault is = (
        readable,
        report_readable,
        what,
        means_what,
        λ graph held other are holds reported told.
            (record { ready = ready graph held other are holds; was = was; report_says = says reported told; fault_is = is }),
      )

      pub uncleared : (fault : CommandFault) → IsUncleared dag found was what fault → IsFaultOfClearInput files input range fault
      uncleared (Clear fault) is = unclearable (Clear fault) is
      uncleared (Seeds fault) is = unclearable (Seeds fault) is
      uncleared OutOfMemory is = tt
      uncleared fault is = absurd is

  -- by what is named to be cleared
  module _ (named : UnreadToClear) (means_named : MeansNamed input.cleared named) where
    pub named_readable : AreReadable files (clear_paths input.graph input.table (path_of named)) → AreReadable files (first_paths input)
    named_readable readable = subst (λ (o : Option (List ℕ)). AreReadable files (clear_paths input.graph input.table o)) (path_named input.cleared named means_named) readable

    -- a fault of the files is the command's
    pub named_reading : (fault : CommandFault) → IsFaultBeforeClearing files input.graph input.table named range input.report fault → IsFaultOfClearInput files input range fault
    named_reading fault (inl is) = preparing fault (subst (λ (o : Option (List ℕ)). IsPreparingFault files input.graph input.table o range fault) (path_named input.cleared named means_named) is)
    named_reading fault (inr (readable, said, (what, read), is)) = unreported (named_readable readable) what (read_means files input.cleared named what means_named read) said fault is
