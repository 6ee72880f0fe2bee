-- What is read of the commands of tasks.
use Rattle.std.specs.Prelude.{ℕ, ◌&&◌, List, [], length, codes, Bool, true, nat_le, if◌then◌else◌, Option, Some, None, option_map, option_and_then, Result, Ok, Err}
use Rattle.std.specs.List.{list_all}
use Rattle.std.specs.Str.{bytes_eq}
use Rattle.serde_json.specs.Data.{Data, Items, Members, no_members, member}
use Rattle.serde_json.specs.Find.{as_str, as_object}
use Rattle.bf_read.specs.declared.path.Path.{Path}
use Rattle.bf_read.specs.declared.draft.WordDraft.{WordDraft}
use Rattle.bf_read.specs.declared.draft.WordDraft.TheVariants.{Text, Context, Pull, Item}
use Rattle.bf_read.specs.Limits.{most_words, most_pulls, longest_word}
use Rattle.bf_read.specs.declared.fault.ReadFault.{ReadFault}
use Rattle.bf_read.specs.declared.fault.ReadFault.TheVariants.{Shape}
use Rattle.bf_read.specs.Drafts.{pulled_in}
use Rattle.bf_read.specs.Gives.{◌>>=◌}
use Rattle.bf_read.specs.Fields.{Member, or_shape, if_there, field_with_value_in, text_of, flag_in, refuse_beyond_limit_of, items_in, each_item}
use Rattle.bf_plan.specs.Kinds.{context_named}

-- ---- words

abbrev pub only_entry_in : Members → Option (List ℕ × Data)
only_entry_in no_members = None
only_entry_in (member key d no_members) = Some (key, d)
only_entry_in (member key d (member other e ms)) = None

-- the member of an object with exactly one key
unfoldable pub only_member_in : Path → Data → Result (List ℕ × Data) ReadFault
only_member_in p d = or_shape p (option_and_then only_entry_in (as_object d))

unfoldable pub context_word_of : Member → Result WordDraft ReadFault
context_word_of m = do
  s ← text_of m
  or_shape m.path (option_map Context (context_named s))

unfoldable pub pull_word_of : Member → Result WordDraft ReadFault
pull_word_of m = do
  id ← text_of m
  Ok (Pull id)

-- the item, which only an expanded task has
unfoldable pub item_word_of : Bool → Member → Result WordDraft ReadFault
item_word_of is_expanded m = do
  is_item ← flag_in m
  if is_item && is_expanded then Ok Item else Err (Shape m.path)

-- the word of an object whose one member is this
unfoldable pub keyed_word_of : Bool → List ℕ → Member → Result WordDraft ReadFault
keyed_word_of is_expanded key m =
    if bytes_eq key (codes "context") then context_word_of m
    else (if bytes_eq key (codes "pull") then pull_word_of m
    else (if bytes_eq key (codes "item") then item_word_of is_expanded m else Err (Shape m.path)))

abbrev pub or_word : Option (List ℕ) → Result WordDraft ReadFault → Result WordDraft ReadFault
or_word (Some s) word = Ok (Text s)
or_word None word = word

-- a text, or an object with exactly one key
unfoldable pub word_in : Bool → Path → Data → Result WordDraft ReadFault
word_in is_expanded p d =
    or_word (as_str d) (only_member_in p d >>= λ m. keyed_word_of is_expanded m.0 (field_with_value_in p m.1))

abbrev pub words_of : Bool → Path → Items → Result (List WordDraft) ReadFault
words_of is_expanded p = each_item (word_in is_expanded p)

-- ---- commands

abbrev pub is_short_word_in : WordDraft → Bool
is_short_word_in (Text s) = nat_le (length s) longest_word
is_short_word_in (Pull id) = nat_le (length id) longest_word
is_short_word_in (Context variable) = true
is_short_word_in Item = true

-- the words of a command; none where the key is missing
unfoldable pub command_in : Bool → Member → Result (List WordDraft) ReadFault
command_in is_expanded m = if_there m.value [] (do
  ds ← items_in m
  words ← words_of is_expanded m.path ds
  _ ← refuse_beyond_limit_of m.path (nat_le (length words) most_words)
  _ ← refuse_beyond_limit_of m.path (list_all is_short_word_in words)
  _ ← refuse_beyond_limit_of m.path (nat_le (length (pulled_in words)) most_pulls)
  Ok words)
