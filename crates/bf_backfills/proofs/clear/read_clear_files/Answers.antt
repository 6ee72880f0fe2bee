use Rattle.std.proofs.Common.{◌++◌, option_map, string_bytes, ◌∙◌}
use Rattle.bf_disk.specs.Files.{named_paths}
use Rattle.bf_input.specs.Inputs.{graph_paths}
use Rattle.bf_planning.proofs.Results.{handed_on}
use Rattle.bf_backfills.specs.inner.Named.{path_of}
use Rattle.bf_backfills.proofs.ClearInputs.{held_stays, read_stays}
use Rattle.bf_backfills.proofs.ReadFiles.{reading_before, reading_first, reading_then}
use Rattle.bf_backfills.proofs.clear.read_clear_files.Goals as goal

pub returns-in_err-table-clause-fault : goal.returns-in_err-table-clause-fault
returns-in_err-table-clause-fault g c =
    let files = g.S.Source.file c.args.files.now in
    let table = named_paths (option_map string_bytes c.args.table) in
    let seeds = named_paths (path_of c.args.named) in
    handed_on _ _ c.from_residual-in_err-table.ensures.1
    (reading_then files (graph_paths c.args.graph) (table ++ seeds) _ c.in_ok-graph.ensures.readable
    (reading_before files _ c.in_ok-graph.ensures.stays (table ++ seeds) _ (reading_first _ table seeds _ c.in_err-table.ensures.fault)))

pub returns-in_err-what-clause-fault : goal.returns-in_err-what-clause-fault
returns-in_err-what-clause-fault g c =
    let files = g.S.Source.file c.args.files.now in
    let table = named_paths (option_map string_bytes c.args.table) in
    let seeds = named_paths (path_of c.args.named) in
    handed_on _ _ c.from_residual-in_err-what.ensures.1
    (reading_then files (graph_paths c.args.graph) (table ++ seeds) _ c.in_ok-graph.ensures.readable
    (reading_before files _ c.in_ok-graph.ensures.stays (table ++ seeds) _
    (reading_then _ table seeds _ c.in_ok-table.ensures.readable (reading_before _ _ c.in_ok-table.ensures.stays seeds _ c.in_err-what.ensures.fault))))

pub returns-clause-alike : goal.returns-clause-alike
returns-clause-alike g c = λ held zone other are named. (
  c.in_ok-graph.ensures.alike held zone are,
  c.in_ok-table.ensures.says other (held_stays (g.S.Source.file c.args.files.now) _ (option_map string_bytes c.args.table) other c.in_ok-graph.ensures.stays named),
)

pub returns-clause-what : goal.returns-clause-what
returns-clause-what g c =
    read_stays (g.S.Source.file c.args.files.now) _ c.args.named c.in_ok-what.what (λ p. c.in_ok-table.ensures.stays p ∙ c.in_ok-graph.ensures.stays p) c.in_ok-what.ensures.ok
