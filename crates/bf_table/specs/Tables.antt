-- What a table of answers says, and what it answers.
use Rattle.std.specs.Prelude.{ℕ, ◌+◌, ◌++◌, ◌&&◌, ℤ, pos, negsuc, nat_le, Bool, true, false, if◌then◌else◌, List, [], ◌∷◌, length, map, codes, decimal, find, slice_index_or, Option, Some, None, option_map, option_and_then, Result, Ok, Err}
use Rattle.std.specs.Ordering.{int_eq}
use Rattle.std.specs.List.{list_any}
use Rattle.std.specs.Str.{is_utf8, bytes_eq}
use Rattle.serde_json.specs.Data.{Data, object, Items, no_items, item, Members, no_members, member}
use Rattle.serde_json.specs.Find.{get, as_number, as_i64, as_str, as_array}
use Rattle.serde_json.specs.Read.{read}
use Rattle.jiff.specs.declared.timestamp.Timestamp.{Timestamp}
use Rattle.bf_value.specs.Line.{last_line_of}
use Rattle.bf_value.specs.declared.name.JobName.{JobName}
use Rattle.bf_moment.specs.Long.{is_long}
use Rattle.bf_moment.specs.Moment.{moment_text}
use Rattle.bf_plan.specs.declared.plan.Dag.{Dag}
use Rattle.bf_plan.specs.Plans.{task_of}
use Rattle.bf_try.specs.declared.answers.Exit.{Exit}
use Rattle.bf_try.specs.declared.answers.Line.{Line}
use Rattle.bf_try.specs.declared.answers.Raw.{Raw}
use Rattle.bf_table.specs.declared.table.TableEntry.{TableEntry}
use Rattle.bf_table.specs.declared.table.TableFault.{TableFault}
use Rattle.bf_table.specs.declared.table.TableFault.TheVariants.{BadTable, OutOfMemory}

-- ---- an entry

abbrev pub is_key_in : List ℕ → Bool
is_key_in k =
    list_any (bytes_eq k) (codes "task" ∷ codes "index" ∷ codes "run" ∷ codes "try" ∷ codes "status"
    ∷ codes "out" ∷ [])

abbrev pub has_known_keys_in : Members → Bool
has_known_keys_in no_members = true
has_known_keys_in (member k d ms) = is_key_in k && has_known_keys_in ms

-- an object without an unknown key
abbrev pub is_entry_in : Data → Bool
is_entry_in (object ms) = has_known_keys_in ms
is_entry_in _ = false

-- a key that need not be there
abbrev pub if_there : {A : Type 0} → (Data → Option A) → Option Data → Option (Option A)
if_there read None = Some None
if_there read (Some d) = option_map Some (read d)

-- a whole number
abbrev pub number_of : Data → Option ℤ
number_of d = option_and_then as_i64 (as_number d)

abbrev pub date_from : List ℕ → Option (List ℕ)
date_from text = if is_long text then Some text else None

-- the long form of a moment that exists
abbrev pub date_in : Data → Option (List ℕ)
date_in d = option_and_then date_from (as_str d)

abbrev pub status_from : ℤ → Option ℕ
status_from (pos n) = if nat_le n 255 then Some n else None
status_from (negsuc n) = None

-- a whole number from 0 to 255, or 0 where the key is not there
abbrev pub status_in : Option Data → Option ℕ
status_in None = Some 0
status_in (Some d) = option_and_then status_from (number_of d)

-- the last line of an output, which is empty where the key is not there
abbrev pub line_in : Option Data → Option (List ℕ)
line_in None = Some []
line_in (Some d) = option_map last_line_of (as_str d)

infixl 10 ◌>>=◌
abbrev ◌>>=◌ : {A B : Type 0} → Option A → (A → Option B) → Option B
o >>= f = option_and_then f o

-- what stands under the keys of an entry, where all of it is right
abbrev pub entry_with : Data → Option TableEntry
entry_with d = do
  task ← if_there as_str (get (codes "task") d)
  index ← if_there number_of (get (codes "index") d)
  run ← if_there date_in (get (codes "run") d)
  attempt ← if_there number_of (get (codes "try") d)
  status ← status_in (get (codes "status") d)
  line ← line_in (get (codes "out") d)
  Some (record {
    task = task;
    index = index;
    run = run;
    attempt = attempt;
    status = status;
    line = line;
  })

-- the entry that JSON data is, where it is one
unfoldable pub entry_of : Data → Option TableEntry
entry_of d = if is_entry_in d then entry_with d else None

-- ---- a table

-- an entry, and what comes of those behind it
abbrev pub with_first : TableEntry → Result (List TableEntry) TableFault
    → Result (List TableEntry) TableFault
with_first e (Ok es) = Ok (e ∷ es)
with_first e (Err fault) = Err fault

-- these entries, or the number of the first that is bad, counted on from n
abbrev pub entries_from : ℕ → List (Option TableEntry) → Result (List TableEntry) TableFault
entries_from n [] = Ok []
entries_from n (None ∷ es) = Err (BadTable (Some n))
entries_from n (Some e ∷ es) = with_first e (entries_from (n + 1) es)

abbrev pub entries_of : Items → List (Option TableEntry)
entries_of no_items = []
entries_of (item d ds) = entry_of d ∷ entries_of ds

abbrev pub longest_table : ℕ
longest_table = 8_388_608

-- the JSON data of a file that is not too long
unfoldable pub json_of_file : List ℕ → Option Data
json_of_file bytes =
    if nat_le (length bytes) longest_table && is_utf8 bytes then read bytes else None

abbrev pub table_with : Option Items → Result (List TableEntry) TableFault
table_with None = Err (BadTable None)
table_with (Some ds) = entries_from 0 (entries_of ds)

-- the entries of a file; or the number of the first that is bad, or none where the whole is no JSON list or is too long
unfoldable pub table_in : List ℕ → Result (List TableEntry) TableFault
table_in bytes = table_with (option_and_then as_array (json_of_file bytes))

-- the number of the refusal, which want of memory doesn't have
abbrev pub refusal_number_of : TableFault → Option ℕ
refusal_number_of (BadTable entry) = Some 19
refusal_number_of OutOfMemory = None

-- why a table is refused, as it is printed
abbrev pub fault_text : TableFault → List ℕ
fault_text (BadTable (Some number)) = codes "bad table: " ++ decimal number
fault_text (BadTable None) = codes "bad table: file"
fault_text OutOfMemory = codes "out of memory"

-- ---- what a table answers

-- an entry that names none answers for each
abbrev pub matches_text_in : Option (List ℕ) → List ℕ → Bool
matches_text_in None text = true
matches_text_in (Some named) text = bytes_eq named text

abbrev pub matches_number_in : Option ℤ → ℤ → Bool
matches_number_in None n = true
matches_number_in (Some named) n = int_eq named n

-- the entry answers for this try of a task with this id, in a run of this logical date
abbrev pub answers_for_in : List ℕ → List ℕ → JobName → TableEntry → Bool
answers_for_in id date name entry =
    matches_text_in entry.task id && matches_text_in entry.run date && matches_number_in entry.index name.index
    && matches_number_in entry.attempt (pos name.attempt)

-- status 0 and an empty line, where no entry answers
abbrev pub raw_in : Option TableEntry → Raw
raw_in None = record { exit = Exit.Code (pos 0); line = Line.Bytes [] }
raw_in (Some entry) = record { exit = Exit.Code (pos entry.status); line = Line.Bytes entry.line }

-- the logical dates of runs, as reports spell them
abbrev pub dates_in : List Timestamp → List (List ℕ)
dates_in starts = map (λ start. moment_text start.nanosecond) starts

-- what contracts see of a table's runner: the tasks, the logical dates of the runs, and the table
pub record Answering : Type 0 where
  pub dag : Dag
  pub dates : List (List ℕ)
  pub entries : List TableEntry

-- the answer of the first entry that answers for the try
unfoldable pub answer_of : Answering → JobName → Raw
answer_of over name =
    raw_in (find (answers_for_in (task_of over.dag name.task).id
    (slice_index_or over.dates name.run []) name) over.entries)
