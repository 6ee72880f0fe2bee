use Rattle.std.proofs.Common.{◌≡◌, ℕ, ◌<◌, [], length, get_or, string_bytes, arith, rules, subst, sym, ◌∙◌}
use Rattle.std.specs.BTreeMap.{get_by_text}
use Rattle.std.proofs.lemmas.List.{get_or-map, get_or_default, length-map}
use Rattle.std.proofs.lemmas.Map.Text.{btree_map_updates_text}
use Rattle.bf_graph.specs.Shape.{texts}
use Rattle.bf_graph.proofs.IdLemmas.{IsTold, all_told, one_told}
use Rattle.bf_graph.proofs.ids.numbers_of.Goals as goal

pub loop-number-init : goal.loop-number-init
loop-number-init c = λ q. rw c.new-numbers.ensures.empty (λ k h. absurd (omega (arith, h)))

pub loop-number-preserved : goal.loop-number-preserved
loop-number-preserved c = λ q.
    let ids = c.args.ids.now in
    let number = c.loop-number.number in
    let id = c.in_ok-clone.field-0 in
    let inside : number < length ids = search rules in
    let same : string_bytes (get_or ids number id) ≡ string_bytes id = grind (arith, get_or_default) in
    let put = btree_map_updates_text (string_bytes id) c.loop-number.numbers c.insert.new.self _ c.in_ok-insert.ensures.updates q in
    one_told (texts ids) q number (string_bytes id) _ _ (get_or-map string_bytes ids number id [] inside ∙ same) put (c.loop-number.invariant q)

pub returns : goal.returns
returns c = λ id.
    let ids = c.args.ids.now in
    let all : c.loop-number.number ≡ length ids = search rules in
    all_told (texts ids) id c.requires.distinct _ (subst (λ (n : ℕ). IsTold (texts ids) id n (get_by_text c.loop-number.numbers id)) (all ∙ sym (length-map ids string_bytes)) (c.loop-number.invariant id))
