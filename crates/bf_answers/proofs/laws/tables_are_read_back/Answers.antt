use Rattle.bf_answers.specs.Answers.{answers_in}
use Rattle.bf_answers.proofs.ReadBack.{table_back}
use Rattle.bf_answers.proofs.Tellables.{answers_tellable}
use Rattle.bf_answers.proofs.laws.tables_are_read_back.Goals as goal

pub returns : goal.returns
returns c = λ report shown short. table_back (answers_in report) (answers_tellable c.long_form_is_what_is_written.ensures report shown) short
