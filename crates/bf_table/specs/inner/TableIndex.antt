-- Which entry of a table comes first of those that name the same.
use Rattle.std.specs.Prelude.{ℕ, min, ℤ, pos, List, [], ◌∷◌, ◌++◌, Option, Some, None}
use Rattle.std.specs.Bool.{then_some}
use Rattle.bf_value.specs.declared.name.JobName.{JobName}
use Rattle.bf_table.specs.declared.table_index.NamedParts.{NamedParts}
use Rattle.bf_table.specs.declared.table_index.Pattern.{Pattern}

-- the less of two numbers, where there are two
abbrev pub earlier_place_of : Option ℕ → Option ℕ → Option ℕ
earlier_place_of (Some a) (Some b) = Some (min a b)
earlier_place_of (Some a) None = Some a
earlier_place_of None b = b

-- the earliest of what is found for these keys
abbrev pub first_of_keys : (Pattern → Option ℕ) → List Pattern → Option ℕ
first_of_keys get [] = None
first_of_keys get (key ∷ keys) = earlier_place_of (get key) (first_of_keys get keys)

-- what a try has of all that these entries name
abbrev pub pattern_of_try : NamedParts → List ℕ → JobName → Pattern
pattern_of_try named date name =
    record {
      task = Some name.task;
      date = then_some named.run date;
      index = then_some named.index name.index;
      attempt = then_some named.attempt (pos name.attempt);
    }

-- these parts, with no try number and with the one that is asked for
abbrev pub keys_with_index : Pattern → Option ℕ → Option (List ℕ) → Option ℤ → List Pattern
keys_with_index asked task date index =
    record { task = task; date = date; index = index; attempt = None }
    ∷ record { task = task; date = date; index = index; attempt = asked.attempt } ∷ []

-- this task and date, with no index and with the one that is asked for, and so its try number
abbrev pub keys_with_date : Pattern → Option ℕ → Option (List ℕ) → List Pattern
keys_with_date asked task date =
    keys_with_index asked task date None ++ keys_with_index asked task date asked.index

-- this task, with no date and with the one that is asked for, and so its index and try number
abbrev pub keys_with_task : Pattern → Option ℕ → List Pattern
keys_with_task asked task = keys_with_date asked task None ++ keys_with_date asked task asked.date

-- the patterns of the entries that answer for a try: of each that the try has, an entry names it or names none
abbrev pub keys_of : Pattern → List Pattern
keys_of asked = keys_with_task asked None ++ keys_with_task asked asked.task
