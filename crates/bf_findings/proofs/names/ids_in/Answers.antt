use Rattle.std.proofs.Common.{◌++◌, List, ℕ, Bor, map, sym, ap, ◌∙◌, append-nil}
use Rattle.std.specs.List.{filter_map}
use Rattle.std.proofs.lemmas.List.{drop_all}
use Rattle.bf_findings.specs.Names.{id_known}
use Rattle.bf_findings.proofs.Lists.{id_of, filter_viewed}
use Rattle.bf_findings.proofs.names.ids_in.Goals as goal

pub returns : goal.returns
returns c =
    let found = map (λ (s : Bor (List ℕ)). s.now) c.loop-task.found.items in
    let tasks = c.tasks_in-task-items.result.now in
    sym (append-nil found) ∙ ap (λ vs. found ++ filter_map id_of vs) (sym (drop_all _ _ c.loop-task-test.false)) ∙ c.loop-task.invariant ∙ sym (filter_viewed id_known tasks) ∙ ap (filter_map id_known) c.tasks_in-task-items.ensures
