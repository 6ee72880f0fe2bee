-- Reading the entries of a table.
use Rattle.std.proofs.Common.{◌≡◌, ℕ, ◌<◌, ◌≤◌, ◌+◌, Bool, true, false, ◌&&◌, if◌then◌else◌, IsUtf8, List, [], ◌∷◌, ◌++◌, length, get_or, drop, Option, Some, None, Result, Ok, Err, String, Global, string_bytes, refl, ap}
use Rattle.std.specs.List.{list_all}
use Rattle.std.specs.Map.{keys_of}
use Rattle.std.specs.Str.{is_utf8}
use Rattle.std.proofs.lemmas.Bool.{le-leb}
use Rattle.std.proofs.lemmas.Str.{IsUtf8-from_is_utf8, is_utf8-from_IsUtf8}
use Rattle.serde_json.specs.Data.{Data}
use Rattle.serde_json.specs.Read.{read}
use Rattle.serde_json.specs.View.{view, items_view, members_view}
use Rattle.serde_json.specs.declared.value.Value.{Value}
use Rattle.bf_value.proofs.ReadLemmas.{drop_item}
use Rattle.bf_table.specs.declared.table.TableEntry.{TableEntry}
use Rattle.bf_table.specs.declared.table.TableFault.{TableFault}
use Rattle.bf_table.specs.Tables.{is_key_in, has_known_keys_in, entry_of, entries_of, entries_from, longest_table, json_of_file}

pub known_by_keys : (es : List (String Global × Value)) → list_all (λ name. is_key_in (string_bytes name)) (keys_of es) ≡ has_known_keys_in (members_view es)
known_by_keys [] = refl
known_by_keys (e ∷ es) = ap (λ b. is_key_in (string_bytes e.0) && b) (known_by_keys es)

-- ---- entries, one after another

-- these entries, and then those that are read
abbrev pub after : List TableEntry → Result (List TableEntry) TableFault → Result (List TableEntry) TableFault
after es (Ok rest) = Ok (es ++ rest)
after es (Err fault) = Err fault

-- what is read from n on
abbrev pub read_from : ℕ → List Value → Result (List TableEntry) TableFault
read_from n vs = entries_from n (entries_of (items_view (drop n vs)))

-- what is read from n on, by what is read at n
abbrev at : List TableEntry → ℕ → List Value → Option TableEntry → Result (List TableEntry) TableFault
at es n vs o = after es (entries_from n (o ∷ entries_of (items_view (drop (n + 1) vs))))

next : (es : List TableEntry) (vs : List Value) (n : ℕ) (v : Value) → n < length vs → v ≡ get_or vs n v → after es (read_from n vs) ≡ at es n vs (entry_of (view v))
next es vs n v h is = ap (λ us. after es (entries_from n (entries_of (items_view us)))) (drop_item vs n v h is)

-- ---- the file

pub json_there : (bytes : List ℕ) (d : Data) → length bytes ≤ longest_table → IsUtf8 bytes → read bytes ≡ Some d → json_of_file bytes ≡ Some d
unfolding json_of_file
json_there bytes d short text is = rw (le-leb (length bytes) longest_table short, is_utf8-from_IsUtf8 bytes text) is

none_where : (short text : Bool) (o : Option Data) → (text ≡ true → o ≡ None) → (if short && text then o else None) ≡ None
none_where true true o none = none refl
none_where true false o none = refl
none_where false text o none = refl

pub json_not_there : (bytes : List ℕ) → (IsUtf8 bytes → read bytes ≡ None) → json_of_file bytes ≡ None
unfolding json_of_file
json_not_there bytes none = none_where _ (is_utf8 bytes) _ (λ e. none (IsUtf8-from_is_utf8 bytes e))
