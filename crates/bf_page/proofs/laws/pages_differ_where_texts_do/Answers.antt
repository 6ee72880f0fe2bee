use Rattle.std.proofs.Common.{drop}
use Rattle.bf_texts.specs.declared.page.TheConstants as fixed
use Rattle.bf_texts.specs.declared.page.document.TheConstants as document
use Rattle.bf_page.specs.Page.{behind_times}
use Rattle.bf_page.proofs.PageFacts.{texts_in_a_row}
use Rattle.bf_page.proofs.laws.pages_differ_where_texts_do.Goals as goal

pub returns : goal.returns
returns c = λ one two same.
    texts_in_a_row document.TO_GRAPH_PATH.now (drop 1 fixed.TO_REPORT_PATH.now) (drop 1 fixed.TO_ZONE_PATH.now) (drop 1 fixed.TO_CELLS.now) (drop 1 fixed.TO_GRAPH.now) (drop 1 fixed.TO_REPORT.now) (drop 1 fixed.TO_TIMES.now) (drop 1 behind_times)
    one.graph_path.now one.report_path.now one.zone_path.now one.cells.now one.graph.now one.report.now one.times.now
    two.graph_path.now two.report_path.now two.zone_path.now two.cells.now two.graph.now two.report.now two.times.now same
