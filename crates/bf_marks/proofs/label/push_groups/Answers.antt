use Rattle.std.proofs.Common.{◌≡◌, ℕ, List, ◌+◌, ◌-◌, ◌==◌, ◌++◌, ◌∷◌, length, take, drop, max, sym, ap, ap₂, ◌∙◌, append_assoc, arith, rules, if◌then◌else◌}
use Rattle.std.proofs.lemmas.List.{take_all, length-drop}
use Rattle.bf_moment.specs.Moment.{moment_text}
use Rattle.bf_moment.specs.declared.moment.Moment.{Moment}
use Rattle.bf_marks.specs.Labels.{counted, fitted_of, group_label, group_of, groups_of, groups_text, left}
use Rattle.bf_marks.specs.inner.Labels.{same_first}
use Rattle.bf_marks.proofs.LabelFacts.{moments, group_more, dropped_groups, length_groups}
use Rattle.bf_marks.proofs.label.push_groups.Goals as goal

pub loop-first-smaller : goal.loop-first-smaller
loop-first-smaller c =
    let further = c.in-Some.further.now in
    let same = c.count_same_at_front-same.result in
    let was : c.loop-first.rest.now ≡ c.in-Some.first.now ∷ further = search rules in
    let rest : take (length further - same) (drop same further) ≡ drop same further = take_all (length further - same) (drop same further) (omega (arith, length-drop same further)) in
    omega (arith, ap length was, ap length rest, length-drop same further)

pub loop-first-preserved : goal.loop-first-preserved
loop-first-preserved c =
    let scale = c.args.scale in
    let before : List ℕ = c.loop-first.text.items in
    let first : Moment = c.in-Some.first.now in
    let further : List Moment = c.in-Some.further.now in
    let same : ℕ = c.count_same_at_front-same.result in
    let room : ℕ = c.label_room.result in
    let g : List ℕ = group_of scale (moment_text first.at.nanosecond) in
    let gs : List (List ℕ) = groups_of scale (moments further) in
    let was : c.loop-first.rest.now ≡ first ∷ further = search rules in
    let rest : take (length further - same) (drop same further) ≡ drop same further = take_all (length further - same) (drop same further) (omega (arith, length-drop same further)) in
    let cut : take c.group_size.result c.moment_bytes-moment.result ≡ g = ap₂ take c.group_size.ensures c.moment_bytes-moment.ensures.text in
    let left_groups : groups_of scale (moments (take (length further - same) (drop same further))) ≡ drop same gs = ap (λ ms. groups_of scale (moments ms)) rest ∙ sym (dropped_groups scale same further) in
    let count = c.count_same_at_front-same.ensures.count ∙ ap (λ k. same_first k gs) cut in
    let size : length (take (length further - same) (drop same further)) ≡ length (drop same gs) = sym (length_groups scale (take (length further - same) (drop same further))) ∙ ap length left_groups in
    let has : room ≡ (if length (drop same gs) == 0 then max (same + 1) 99 else same + 1) = c.label_room.ensures ∙ ap (λ n. if n == 0 then max (same + 1) 99 else same + 1) size in
    let so_far : before ++ groups_text scale (counted (groups_of scale (moments c.loop-first.rest.now))) ≡ c.args.text.now.items ++ groups_text scale (counted (groups_of scale (moments c.args.starts.now))) = c.loop-first.invariant in
    ap (λ t. t ++ groups_text scale (counted (groups_of scale (moments (take (length further - same) (drop same further)))))) (c.in_ok-push_group.ensures ∙ ap (λ k. before ++ left (same + 1) (fitted_of room (group_label scale k))) cut)
    ∙ append_assoc before (left (same + 1) (fitted_of room (group_label scale g))) (groups_text scale (counted (groups_of scale (moments (take (length further - same) (drop same further))))))
    ∙ ap (λ ys. before ++ (left (same + 1) (fitted_of room (group_label scale g)) ++ groups_text scale (counted ys))) left_groups
    ∙ ap (λ s. before ++ s) (sym (group_more scale g gs same room count has))
    ∙ ap (λ ms. before ++ groups_text scale (counted (groups_of scale (moments ms)))) (sym was)
    ∙ so_far
