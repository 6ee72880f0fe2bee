-- Sections of places, one more at a time.
use Rattle.std.proofs.Common.{◌≡◌, ◌<◌, ◌+◌, ℕ, List, ◌∷◌, ◌++◌, drop, get_or, length, refl, sym, ap, ◌∙◌, subst}
use Rattle.std.proofs.lemmas.List.{drop_more}
use Rattle.bf_core.specs.Terms.{Dag}
use Rattle.bf_report.specs.declared.report.Report.{Report}
use Rattle.bf_dependents.specs.declared.place.Place.{Place}
use Rattle.bf_explain.specs.declared.paths.Paths.{Paths}
use Rattle.bf_explain.specs.Clearing.{AreClearSections, IsClearSection}

module _ (paths : Paths) (dag : Dag) (report : Report) (run task : ℕ) where
  -- the sections of the places behind one place, with its own before them
  pub section_more : (places : List Place) (index : ℕ) (place : Place) (one rest : List (List ℕ)) → index < length places → place ≡ get_or places index place →
      IsClearSection paths dag report run task place one → AreClearSections paths dag report run task (drop (index + 1) places) rest →
      AreClearSections paths dag report run task (drop index places) (one ++ rest)
  section_more places index place one rest low is here behind =
      subst (λ (ps : List Place). AreClearSections paths dag report run task ps (one ++ rest))
      (sym (drop_more places index place low ∙ ap (λ (p : Place). p ∷ drop (index + 1) places) (sym is)))
      (one, rest, here, behind, refl)
