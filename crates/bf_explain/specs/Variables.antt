-- The words of a try, as a line of a shell behind the variables that they name.
use Rattle.std.specs.Prelude.{ℕ, ℤ, ◌||◌, nat_eq, Bool, false, List, [], ◌∷◌, ◌++◌, codes, filter}
use Rattle.std.specs.List.{flat_map, list_any, starts_with}
use Rattle.bf_quoted.specs.Lines.{line_of}
use Rattle.bf_quoted.specs.Words.{quoted}
use Rattle.bf_words.specs.declared.context.JobContext.{JobContext}
use Rattle.bf_process.specs.Environment.{variable_name, variable_value, variables_of}
use Rattle.bf_process.specs.declared.variable.Variable.{Variable}

-- the name stands somewhere in the text
unfoldable pub stands_in : List ℕ → List ℕ → Bool
stands_in name [] = false
stands_in name (byte ∷ text) = starts_with nat_eq (byte ∷ text) name || stands_in name text

abbrev pub is_named_in : List (List ℕ) → Variable → Bool
is_named_in words variable = list_any (stands_in (variable_name variable)) words

-- as `BACKFILL_DATE=2024-03-04`, with a space behind it
abbrev pub setting_of : JobContext → ℤ → Variable → List ℕ
setting_of try clock variable =
    variable_name variable ++ (codes "=" ++ (quoted (variable_value try clock variable) ++ codes " "))

-- `env` sets these
abbrev pub settings_of : JobContext → ℤ → List Variable → List ℕ
settings_of try clock [] = []
settings_of try clock (variable ∷ variables) =
    codes "env " ++ flat_map (setting_of try clock) (variable ∷ variables)

-- by what the clocks of the graph's zone show at the try's run
abbrev pub hand_line_of : JobContext → ℤ → List (List ℕ) → List ℕ
hand_line_of try clock words =
    settings_of try clock (filter (is_named_in words) variables_of) ++ line_of words
