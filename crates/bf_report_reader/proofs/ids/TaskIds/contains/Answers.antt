use Rattle.std.proofs.Common.{◌∙◌, ap}
use Rattle.std.specs.List.{list_any}
use Rattle.std.specs.Str.{bytes_eq}
use Rattle.bf_report_reader.proofs.IdFacts.{any_text}
use Rattle.bf_report_reader.proofs.ids.TaskIds.contains.Goals as goal

pub returns : goal.returns
returns c =
    let id = c.args.id.now in
    c.contains.ensures ∙ any_text id c.self.inside.set.keys ∙ ap (list_any (λ task. bytes_eq task id)) c.self.view_is
