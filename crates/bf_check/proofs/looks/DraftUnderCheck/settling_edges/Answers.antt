use Rattle.std.proofs.Common.{ℕ, List, ◌<◌, ◌+◌, length, map, take, get_or, ap, sym, ◌∙◌, arith}
use Rattle.std.proofs.lemmas.List.{length-map, map_push}
use Rattle.bf_graph.specs.Edges.{lists, upstreams_of}
use Rattle.bf_graph.specs.Shape.{Shape}
use Rattle.bf_rule.specs.declared.rule.Rule.{Rule}
use Rattle.bf_check.specs.Checking.{rule_of}
use Rattle.bf_check.specs.inner.Looks.{settling_upstreams}
use Rattle.bf_check.proofs.PullLemmas.{settling_more}
use Rattle.bf_check.proofs.looks.DraftUnderCheck.settling_edges.Goals as goal

pub loop-t-preserved : goal.loop-t-preserved
loop-t-preserved c =
    let draft = c.args.self.now.draft.now in
    let within : c.loop-t.t < length draft.tasks = omega (arith, c.loop-t-test.true, ap length c.requires.rules, length-map draft.tasks rule_of) in
    let above = c.upstreams.ensures ∙ ap (λ (s : Shape). upstreams_of s.upstreams c.loop-t.t) c.requires.graph in
    let so_far = c.loop-t.invariant ∙ ap (λ (ids : List (List ℕ)). map (settling_upstreams ids) (take c.loop-t.t draft.tasks)) c.args.self.now.of_draft in
    let more = settling_more draft c.loop-t.t (lists c.loop-t.edges.items) c.in_ok-settling_upstreams.field-0.items c.upstreams.result.now _ Rule.AllSuccess within so_far (ap (λ (rules : List Rule). get_or rules c.loop-t.t Rule.AllSuccess) c.requires.rules) above c.in_ok-settling_upstreams.ensures in
    ap lists c.in_ok-push.ensures.items ∙ map_push (λ v. v.items) c.loop-t.edges.items c.in_ok-settling_upstreams.field-0 ∙ more
    ∙ ap (λ (ids : List (List ℕ)). map (settling_upstreams ids) (take (c.loop-t.t + 1) draft.tasks)) (sym c.args.self.now.of_draft)
