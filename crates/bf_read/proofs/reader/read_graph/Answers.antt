use Rattle.std.proofs.Common.{Result, sym, subst, true≢false}
use Rattle.bf_read.specs.declared.fault.ReadFault.{ReadFault}
use Rattle.bf_read.specs.Gives.{Gives}
use Rattle.bf_read.specs.Reading.{GraphFile, graph_file_of}
use Rattle.bf_read.proofs.FileLemmas.{json_file, no_json_file}
use Rattle.bf_read.proofs.reader.read_graph.Goals as goal

pub returns-in-Ok : goal.returns-in-Ok
returns-in-Ok c =
    subst (λ (r : Result GraphFile ReadFault). Gives graph_file_of c.draft_of.result r)
    (sym (json_file c.args.bytes.now _ c.in_ok-refuse_beyond_limit.ensures.holds c.in-Ok.ensures.ok.0 c.in-Ok.ensures.ok.1)) c.draft_of.ensures

pub returns-in-Err-2 : goal.returns-in-Err-2
returns-in-Err-2 c =
    no_json_file c.args.bytes.now c.in_ok-refuse_beyond_limit.ensures.holds (c.in-Err.ensures.err (λ memory. true≢false (sym (c.if-is_memory.ensures.1 memory))))
