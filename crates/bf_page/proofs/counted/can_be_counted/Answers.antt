use Rattle.std.proofs.Common.{◌∙◌, ℕ, List, [], ◌∷◌, map, arith, sym}
use Rattle.std.proofs.lemmas.Bool.{leb-true, false≢true}
use Rattle.bf_texts.specs.declared.page.TheConstants as fixed
use Rattle.bf_texts.specs.declared.page.document.TheConstants as document
use Rattle.bf_page.proofs.CountedFacts.{none_long, unset, woven_counted}
use Rattle.bf_page.proofs.counted.can_be_counted.Goals.{then-not-has_long, else-not-has_long, then-not-has_long-2, else-not-has_long-2, then-not-has_long-3, else-not-has_long-3}
use Rattle.bf_page.proofs.counted.can_be_counted.Goals as goal

pub returns-then-texts-le-LONGEST : goal.returns-then-texts-le-LONGEST
returns-then-texts-le-LONGEST c = λ report_is.
    let texts = c.args.texts.now in
    let pieces : List (List ℕ) = document.TO_GRAPH_PATH.now ∷ fixed.TO_REPORT_PATH.now ∷ fixed.TO_ZONE_PATH.now ∷ fixed.TO_CELLS.now ∷ fixed.TO_GRAPH.now ∷ fixed.TO_REPORT.now ∷ fixed.TO_TIMES.now ∷ [] in
    let last : List (List ℕ) = map (λ text. text.now) fixed.BEHIND_TIMES in
    let told : List (List ℕ) = texts.graph_path.now ∷ texts.report_path.now ∷ texts.zone_path.now ∷ texts.cells.now ∷ texts.graph.now ∷ texts.report.now ∷ texts.times.now ∷ [] in
    elim c.if-not-has_long-3.branch [
      | else-not-has_long-3 v ↦ absurd (false≢true (sym v.if-not-has_long-3.false ∙ sym v.value-is ∙ c.if-texts-le-LONGEST.true))
      | then-not-has_long-3 v ↦ elim c.if-not-has_long-2.branch [
        | else-not-has_long-2 w ↦ absurd (false≢true (sym w.if-not-has_long-2.false ∙ sym w.value-is ∙ v.if-not-has_long-3.true))
        | then-not-has_long-2 w ↦ elim c.if-not-has_long.branch [
          | else-not-has_long x ↦ absurd (false≢true (sym (unset _ (sym x.value-is ∙ w.if-not-has_long-2.true)) ∙ x.if-not-has_long.false))
          | then-not-has_long x ↦
              woven_counted pieces last told (omega arith) (omega arith)
              (sym c.has_long.ensures ∙ x.if-not-has_long.true)
              (sym x.has_long-then-not-has_long.ensures ∙ unset _ (sym x.value-is ∙ w.if-not-has_long-2.true))
              (none_long texts.graph_path.now texts.report_path.now texts.zone_path.now texts.cells.now texts.times.now texts.graph.now texts.report.now
              (sym w.has_long-then-not-has_long-2.ensures ∙ unset _ (sym w.value-is ∙ v.if-not-has_long-3.true))
              (leb-true _ _ (sym v.value-is ∙ c.if-texts-le-LONGEST.true))
              (leb-true _ _ report_is))
        ]
      ]
    ]
