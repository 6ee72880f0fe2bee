use Rattle.std.proofs.Common.{◌≡◌, ◌++◌, ◌∷◌, Some, map, sym, ap, ◌∙◌}
use Rattle.serde_json.specs.Find.{as_object}
use Rattle.serde_json.specs.View.{view, members_view}
use Rattle.bf_read.specs.declared.keys.TaskKey.TheVariants as key
use Rattle.bf_findings.specs.declared.place.DocumentPlace.TheVariants as place
use Rattle.bf_findings.specs.Listed.{items_in, members_of_task, other_task_keys, task_key_places, task_places, upstreams, words}
use Rattle.bf_findings.proofs.PlaceLemmas.{joined, on_ok}
use Rattle.bf_findings.proofs.places.add_task.Goals as goal

pub returns : goal.returns
returns c =
    let n = c.args.n in
    let d = view c.args.task.now in
    let old = c.args.places.now.items in
    let ms = members_view c.in-Some.members.now.entries in
    let first = c.push.new.self.items in
    let second = c.add_task_keys.new.places.items in
    let third = c.add_other_task_keys.new.places.items in
    let fourth = c.add_upstreams.new.places.items in
    let last = c.add_words.new.places.items in
    let is : as_object d ≡ Some ms = sym c.in-Some.ensures in
    let P : Type 0 = last ≡ fourth ++ words n 0 (map view c.items_under-2.result.now) in
    let Q : Type 0 = last ≡ old ++ task_places n d in
    let following : fourth ≡ third ++ upstreams n 0 (items_in d key.Upstream) = c.in_ok-add_upstreams.ensures ∙ ap (λ ds. third ++ upstreams n 0 ds) c.items_under.ensures in
    on_ok {P = P} {Q = Q} c.add_words.result c.add_words.ensures (λ e.
    joined old first second third fourth last (task_key_places n) (other_task_keys n ms) (upstreams n 0 (items_in d key.Upstream)) (words n 0 (items_in d key.Command)) (place.Task n)
    c.in_ok-push.ensures.items c.in_ok-add_task_keys.ensures c.in_ok-add_other_task_keys.ensures following (e ∙ ap (λ ds. fourth ++ words n 0 ds) c.items_under-2.ensures)
    ∙ ap (λ o. old ++ place.Task n ∷ members_of_task n d o) (sym is))
