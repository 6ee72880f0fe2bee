use Rattle.std.proofs.Common.{◌≡◌, ◌++◌, ◌∙◌, ◌∷◌, List, [], length, sym, refl, subst, arith}
use Rattle.std.specs.Vec.Iter.{into_iter_items}
use Rattle.std.proofs.lemmas.List.{append-nil}
use Rattle.bf_lane.specs.Lanes.{FourLists}
use Rattle.bf_lane.specs.Open.{Scheduled}
use Rattle.bf_lane.specs.Closing.{ClosesAll}
use Rattle.bf_lane.proofs.lanes.Lanes.close.Goals as goal

nil_of : {X : Type 0} (xs : List X) → length xs ≡ 0 → xs ≡ []
nil_of [] e = refl
nil_of (x ∷ xs) e = absurd (omega (arith, e))

pub returns : goal.returns
returns g c =
    let may_answer = g.K.Service.answers in
    let may_give_up = g.K.Service.gives_up in
    let none : into_iter_items c.loop-lane.lane-iterator ≡ [] = nil_of _ (c.loop-lane.invariant.2 ∙ c.in-None.ensures.steps.0) in
    let all = c.loop-lane.invariant.1 [] (subst (λ (ls : List Scheduled). ClosesAll may_answer may_give_up ls []) (sym none) tt) in
    subst (λ (cs : List FourLists). ClosesAll may_answer may_give_up c.args.self cs) (append-nil c.loop-lane.ends.items) all
