use Rattle.std.proofs.Common.{ℕ, List, [], ◌∷◌, if◌then◌else◌, ap, ◌∙◌}
use Rattle.std.specs.List.{flat_map}
use Rattle.std.proofs.lemmas.Result.{IfOk-weaker}
use Rattle.bf_core.specs.Deciding.{is_blocked_in}
use Rattle.bf_reason.specs.Settled.{value_among}
use Rattle.bf_why.specs.Decided.{blocked_upstreams_sentence_of, id_of}
use Rattle.bf_why.proofs.decided.lines_by_blocked_tasks.Goals as goal

pub returns : goal.returns
returns c = λ before.
    let dag = c.args.plan.now.dag in let settled = c.args.settled.now in
    let names = c.as_slice.ensures.value ∙ c.in_ok-names.ensures
    ∙ ap (flat_map {X = ℕ} {A = List ℕ} (λ u. if is_blocked_in (value_among settled u) then id_of dag u ∷ [] else [])) c.upstreams_of.ensures in
    let line = c.in_ok-blocked_upstreams_sentence.ensures ∙ ap blocked_upstreams_sentence_of names in
    IfOk-weaker c.one_line.result _ _ (λ lines is. is ∙ ap (λ (l : List ℕ). l ∷ []) line) c.one_line.ensures
