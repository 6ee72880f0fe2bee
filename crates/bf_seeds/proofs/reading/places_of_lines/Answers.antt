use Rattle.std.proofs.Common.{◌≡◌, ◌<◌, ◌+◌, ℕ, List, [], Bor, length, get_or, map, take, sym, subst, arith}
use Rattle.std.proofs.lemmas.List.{get_or-map, length-map}
use Rattle.bf_dependents.specs.declared.place.Place.{Place}
use Rattle.bf_seeds.specs.Seeds.{ArePlaces, IsFaultOfLine}
use Rattle.bf_seeds.specs.inner.Seeds.{IsPlaceOf}
use Rattle.bf_seeds.proofs.Lines.{earliest, one_line}
use Rattle.bf_seeds.proofs.reading.places_of_lines.Goals as goal

pub returns-in-Err-clause-err : goal.returns-in-Err-clause-err
returns-in-Err-clause-err c =
    let dag = c.args.plan.now.dag in
    let all = c.args.lines.now in
    let i = c.loop-line.line-index in
    let texts : List (List ℕ) = map (λ (s : Bor (List ℕ)). s.now) all in
    let none : Bor (List ℕ) = record { ref_ptr = (0, 0); now = [] } in
    let test = c.loop-line-test.true in
    let low : i < length texts = omega (arith, test, length-map all (λ (s : Bor (List ℕ)). s.now)) in
    let here : get_or texts i [] ≡ (get_or all i none).now = get_or-map (λ (s : Bor (List ℕ)). s.now) all i none [] test in
    earliest dag c.args.intervals.now texts i c.loop-line.places.items c.in-Err.fault low c.loop-line.invariant
    (subst (λ (t : List ℕ). IsFaultOfLine dag c.args.intervals.now t c.in-Err.fault) (sym here) c.in-Err.ensures.err)

pub loop-line-preserved : goal.loop-line-preserved
loop-line-preserved c =
    let dag = c.args.plan.now.dag in
    let all = c.args.lines.now in
    let i = c.loop-line.line-index in
    let texts : List (List ℕ) = map (λ (s : Bor (List ℕ)). s.now) all in
    let none : Bor (List ℕ) = record { ref_ptr = (0, 0); now = [] } in
    let test = c.loop-line-test.true in
    let low : i < length texts = omega (arith, test, length-map all (λ (s : Bor (List ℕ)). s.now)) in
    let here : get_or texts i [] ≡ (get_or all i none).now = get_or-map (λ (s : Bor (List ℕ)). s.now) all i none [] test in
    subst (λ (ps : List Place). ArePlaces dag c.args.intervals.now (take (i + 1) texts) ps) (sym c.in_ok-add_place-in-Ok.ensures.ok)
    (one_line dag c.args.intervals.now texts i c.loop-line.places.items c.in-Ok.place low c.loop-line.invariant
    (subst (λ (t : List ℕ). IsPlaceOf dag c.args.intervals.now t c.in-Ok.place) (sym here) c.in-Ok.ensures.ok))
