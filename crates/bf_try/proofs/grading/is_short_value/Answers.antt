use Rattle.std.proofs.Common.{option_copied, sym, ap, ◌∙◌}
use Rattle.std.specs.Bool.{one_answer}
use Rattle.std.proofs.lemmas.Bool.{leb-true, le-leb}
use Rattle.bf_try.specs.Grades.{is_short_value_in}
use Rattle.bf_try.proofs.grading.is_short_value.Goals as goal

pub returns-in-Some : goal.returns-in-Some
returns-in-Some c = one_answer _ _ c.has_text_within.ensures (leb-true _ _, le-leb _ _) ∙ ap is_short_value_in (sym (ap option_copied c.in-Some.is) ∙ c.get.ensures)
