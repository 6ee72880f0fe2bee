use Rattle.bf_texts.specs.declared.page.TheConstants as fixed
use Rattle.bf_texts.specs.declared.page.document.TheConstants as document
use Rattle.bf_page.specs.Page.{behind_times}
use Rattle.bf_page.proofs.PageFacts.{tags_in_a_row}
use Rattle.bf_page.proofs.laws.all_tags_are_fixed.Goals as goal

pub returns : goal.returns
returns c = λ texts.
    tags_in_a_row document.TO_GRAPH_PATH.now texts.graph_path.now fixed.TO_REPORT_PATH.now texts.report_path.now fixed.TO_ZONE_PATH.now texts.zone_path.now fixed.TO_CELLS.now texts.cells.now fixed.TO_GRAPH.now texts.graph.now fixed.TO_REPORT.now texts.report.now fixed.TO_TIMES.now texts.times.now behind_times
