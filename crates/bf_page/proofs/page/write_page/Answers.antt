use Rattle.std.proofs.Common.{◌≡◌, ℕ, List, OnOk, IfErr, subst}
use Rattle.bf_texts.specs.declared.page.TheConstants as fixed
use Rattle.bf_texts.specs.declared.page.document.TheConstants as document
use Rattle.bf_device.specs.Device.{sent}
use Rattle.bf_page.specs.Page.{behind_times, EndsAt}
use Rattle.bf_page.proofs.PageFacts.{pieces_in_a_row}
use Rattle.bf_page.proofs.page.write_page.Goals as goal

pub returns-clause-ok : goal.returns-clause-ok
returns-clause-ok g c =
    let texts = c.args.texts.now in
    let same = pieces_in_a_row document.TO_GRAPH_PATH.now fixed.TO_REPORT_PATH.now fixed.TO_ZONE_PATH.now fixed.TO_CELLS.now fixed.TO_GRAPH.now fixed.TO_REPORT.now fixed.TO_TIMES.now behind_times texts.graph.now texts.report.now c.as_bytes.ensures.value c.as_bytes-2.ensures.value c.as_bytes-3.ensures.value c.as_bytes-4.ensures.value c.as_bytes-5.ensures.value in
    subst (λ (text : List ℕ). OnOk c.send_pieces.result (g.W.Write.written c.send_pieces.new.out ≡ sent (g.W.Write.written c.args.out.now) text)) same c.send_pieces.ensures.ok

pub returns-clause-part : goal.returns-clause-part
returns-clause-part g c =
    let texts = c.args.texts.now in
    let same = pieces_in_a_row document.TO_GRAPH_PATH.now fixed.TO_REPORT_PATH.now fixed.TO_ZONE_PATH.now fixed.TO_CELLS.now fixed.TO_GRAPH.now fixed.TO_REPORT.now fixed.TO_TIMES.now behind_times texts.graph.now texts.report.now c.as_bytes.ensures.value c.as_bytes-2.ensures.value c.as_bytes-3.ensures.value c.as_bytes-4.ensures.value c.as_bytes-5.ensures.value in
    subst (λ (text : List ℕ). IfErr c.send_pieces.result (λ fault. EndsAt fault.sent text (g.W.Write.written c.args.out.now) (g.W.Write.written c.send_pieces.new.out))) same c.send_pieces.ensures.part
