-- Entries that a table can say.
use Rattle.std.specs.Prelude.{◌≡◌, ℕ, ◌<◌, ◌≤◌, ◌^◌, true, List, Option, Some, None, IsUtf8}
use Rattle.bf_value.specs.Line.{last_line_of}
use Rattle.bf_moment.specs.Long.{is_long}
use Rattle.bf_table.specs.declared.table.TableEntry.{TableEntry}
use Rattle.bf_answers.specs.Answers.{entry_at}
use Rattle.bf_answers.specs.inner.Answers.{number_of}

abbrev pub IsLow : Option ℕ → Type 0
IsLow None = Unit {0}
IsLow (Some index) = index < 2 ^ 63

-- the entry answers one try, by a status and by a line that stands in one
pub record IsTellable (entry : TableEntry) : Type 0 where
  pub run : List ℕ
  pub task : List ℕ
  pub index : Option ℕ
  pub attempt : ℕ
  pub status : ℕ
  pub line : List ℕ
  pub is : entry ≡ entry_at run task (number_of index) attempt status line
  pub moment : is_long run ≡ true
  pub date : IsUtf8 run
  pub id : IsUtf8 task
  pub low_index : IsLow index
  pub low_attempt : attempt < 2 ^ 63
  pub exit_code : status ≤ 255
  pub out : IsUtf8 line
  pub one_line : last_line_of line ≡ line
