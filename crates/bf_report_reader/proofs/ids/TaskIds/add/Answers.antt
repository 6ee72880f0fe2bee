use Rattle.std.proofs.Common.{◌∙◌, ◌++◌, ◌∷◌, [], ap}
use Rattle.std.specs.List.{list_any}
use Rattle.std.specs.Str.{bytes_eq}
use Rattle.bf_report_reader.proofs.IdFacts.{one_more}
use Rattle.bf_report_reader.proofs.ids.TaskIds.add.Goals as goal

pub returns : goal.returns
returns c =
    let id = c.args.id.now in
    let absent = ap (list_any (λ task. bytes_eq task id)) c.self.view_is ∙ c.requires in
    one_more _ _ _ id c.in_ok-from_str.ensures.ok absent c.in_ok-insert.ensures.keys ∙ ap (λ ids. ids ++ id ∷ []) c.self.view_is
