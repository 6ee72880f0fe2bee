use Rattle.std.proofs.Common.{List, ℕ, map, ap, ◌∙◌}
use Rattle.bf_check.specs.inner.Looks.{pulls_in, source_in}
use Rattle.bf_check.proofs.looks.DraftUnderCheck.check_tasks.Goals as goal

pub returns-clause-found : goal.returns-clause-found
returns-clause-found c =
    let tasks = c.args.self.now.draft.now.tasks in
    let ids = c.args.self.now.of_draft in
    record {
      graph_is = c.requires.graph;
      rules_are = c.requires.rules;
      pulls_are = c.in_ok-pulls.ensures.pulls ∙ ap (λ (ids : List (List ℕ)). map (pulls_in ids) tasks) ids;
      sources_are = c.in_ok-sources.ensures.sources ∙ ap (λ (ids : List (List ℕ)). map (source_in ids) tasks) ids;
    }
