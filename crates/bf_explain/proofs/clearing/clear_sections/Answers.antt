use Rattle.std.proofs.Common.{None, ◌≡◌, List, [], ℕ, ◌++◌, drop, get_or, refl, subst, sym, ap, ◌∙◌, append_assoc, append-nil}
use Rattle.std.proofs.lemmas.List.{drop_all, get_or_default}
use Rattle.bf_dependents.specs.declared.place.Place.{Place}
use Rattle.bf_explain.specs.Clearing.{AreClearSections, IsClearSection}
use Rattle.bf_explain.proofs.SectionFacts.{section_more}
use Rattle.bf_explain.proofs.clearing.clear_sections.Goals as goal

pub loop-place-preserved : goal.loop-place-preserved
loop-place-preserved c = λ rest behind.
    let paths = c.args.paths.now in let dag = c.args.plan.now.dag in let report = c.args.report.now in
    let run = c.args.run in let task = c.args.task in
    let places = c.args.places.now in let index = c.loop-place.place-index in
    let other : Place = record { run = 0; task = 0; index = None } in
    let more : List (List ℕ) = c.in_ok-more.more.items in
    let here : IsClearSection paths dag report run task (get_or places index other) more =
    subst (λ (p : Place). IsClearSection paths dag report run task p more) (get_or_default places index _ other c.loop-place-test.true) c.in_ok-more.ensures in
    let sections = section_more paths dag report run task places index (get_or places index other) more rest c.loop-place-test.true
    (sym (get_or_default places index (get_or places index other) other c.loop-place-test.true)) here behind in
    subst (λ (lines : List (List ℕ)). AreClearSections paths dag report run task places lines)
    (sym (append_assoc c.loop-place.lines.items more rest) ∙ ap (λ (ls : List (List ℕ)). ls ++ rest) (sym c.in_ok-add_lines.ensures))
    (c.loop-place.invariant (more ++ rest) sections)

pub returns : goal.returns
returns c =
    let paths = c.args.paths.now in let dag = c.args.plan.now.dag in let report = c.args.report.now in
    let run = c.args.run in let task = c.args.task in let places = c.args.places.now in
    let none : drop c.loop-place.place-index places ≡ [] = drop_all c.loop-place.place-index places c.loop-place-test.false in
    subst (λ (lines : List (List ℕ)). AreClearSections paths dag report run task places lines) (append-nil c.loop-place.lines.items)
    (c.loop-place.invariant [] (subst (λ (ps : List Place). AreClearSections paths dag report run task ps []) (sym none) refl))
