use Rattle.std.proofs.Common.{◌≡◌, ℕ, suc, ◌+◌, Bool, false, ◌||◌, List, [], ◌∷◌, Some, slice_get, refl, ap, ap₂, ◌∙◌, arith}
use Rattle.std.specs.Char.{is_ascii_digit}
use Rattle.std.specs.List.{list_any}
use Rattle.std.specs.Option.{option_and_then}
use Rattle.bf_core.specs.Terms.{Dag}
use Rattle.bf_report.specs.declared.report.TaskReport.{TaskReport}
use Rattle.bf_report.specs.declared.report.Report.{Report}
use Rattle.bf_reason.specs.Letters.{letter_of}
use Rattle.bf_cells.specs.Cells.{letters_from}
use Rattle.bf_cells.proofs.laws.own_letters_have_no_digit.Goals as goal

module _ (dag : Dag) (report : Report) (run : ℕ) where
  abbrev is_digit : ℕ → TaskReport → Bool
  is_digit task told = is_ascii_digit (letter_of dag report run task told)

  none_from : (place : ℕ) (tasks : List TaskReport) → ((i : ℕ) (told : TaskReport) → slice_get tasks i ≡ Some told → is_digit (place + i) told ≡ false) → list_any is_ascii_digit (letters_from dag report run place tasks) ≡ false
  none_from place [] none = refl
  none_from place (told ∷ tasks) none =
      let here : place ≡ place + 0 = omega arith in
      ap₂ (λ first rest. first || rest) (ap (λ p. is_digit p told) here ∙ none 0 told refl)
      (none_from (suc place) tasks (λ i other is. let next : suc place + i ≡ place + suc i = omega arith in ap (λ p. is_digit p other) next ∙ none (suc i) other is))

pub returns : goal.returns
returns c = λ dag sound intervals ledger report dated number run is.
    none_from dag report number 0 run.tasks (λ i told at.
    let place : 0 + i ≡ i = omega arith in
    ap (λ p. is_digit dag report number p told) place
    ∙ c.own_reports_have_no_digit.ensures dag sound intervals ledger report dated number i told (ap (option_and_then (λ r. slice_get r.tasks i)) is ∙ at))
