-- Which entry of a table comes first of those that name the same.
use Rattle.std.specs.Prelude.{◌≡◌, ℕ, ◌==◌, Bool, false, if◌then◌else◌, List, length, position, Option, Some, None, is_some, option_map, option_and_then}
use Rattle.std.specs.List.{list_any}
use Rattle.std.specs.declared.cmp.Ordering.{Ordering}
use Rattle.std.specs.Ordering.{nat_cmp, int_cmp, then_cmp, on, is_eq}
use Rattle.std.specs.Option.{option_cmp}
use Rattle.std.specs.Cmp.Lexicographic.{slice_cmp}
use Rattle.std.specs.Str.{bytes_eq}
use Rattle.std.specs.BTreeMap as tree
use Rattle.bf_table.specs.declared.table.TableEntry.{TableEntry}
use Rattle.bf_table.specs.declared.table_index.NamedParts.{NamedParts}
use Rattle.bf_table.specs.declared.table_index.Pattern.{Pattern}
use Rattle.bf_table.specs.declared.table_index.TableIndex.{TableIndex}

-- the order of patterns: by task, date, index and try number
abbrev pub pattern_cmp : Pattern → Pattern → Ordering
pattern_cmp =
    then_cmp (on (λ p. p.task) (option_cmp nat_cmp))
    (then_cmp (on (λ p. p.date) (option_cmp (slice_cmp nat_cmp)))
    (then_cmp (on (λ p. p.index) (option_cmp int_cmp)) (on (λ p. p.attempt) (option_cmp int_cmp))))

-- the number of the task that is named; none where no task has the id
abbrev pub number_named : List (List ℕ) → Option (List ℕ) → Option (Option ℕ)
number_named ids None = Some None
number_named ids (Some named) = option_map Some (position (bytes_eq named) ids)

-- the date that is named; none where it has not the length of the long form
abbrev pub date_named : Option (List ℕ) → Option (Option (List ℕ))
date_named None = Some None
date_named (Some named) = if length named == 20 then Some (Some named) else None

-- what an entry names
abbrev pub pattern_in : List (List ℕ) → TableEntry → Option Pattern
pattern_in ids e =
    option_and_then (λ task. option_map (λ date. record {
      task = task;
      date = date;
      index = e.index;
      attempt = e.attempt;
    }) (date_named e.run)) (number_named ids e.task)

abbrev pub is_pattern : Pattern → Option Pattern → Bool
is_pattern key None = false
is_pattern key (Some p) = is_eq (pattern_cmp key p)

-- the first entry with a pattern
abbrev pub first_of_key : List (List ℕ) → List TableEntry → Pattern → Option ℕ
first_of_key ids entries key = position (λ e. is_pattern key (pattern_in ids e)) entries

-- each pattern has its first entry
abbrev pub AreFirstsOf : List (List ℕ) → List TableEntry → tree.BTreeMap Pattern ℕ → Type 0
AreFirstsOf ids entries firsts =
    (key : Pattern) → tree.get pattern_cmp firsts key ≡ first_of_key ids entries key

-- which parts any of the entries names
abbrev pub parts_named_in : List TableEntry → NamedParts
parts_named_in entries =
    record {
      run = list_any (λ e. is_some e.run) entries;
      index = list_any (λ e. is_some e.index) entries;
      attempt = list_any (λ e. is_some e.attempt) entries;
    }

-- the index has each pattern's first entry, and which parts the entries name
abbrev pub IsIndexOf : List (List ℕ) → List TableEntry → TableIndex → Type 0
IsIndexOf ids entries index =
    AreFirstsOf ids entries index.firsts × (index.named ≡ parts_named_in entries)
