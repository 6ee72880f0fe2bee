-- Which values are of a form.
use Rattle.std.specs.Prelude.{ℕ, ℤ, pos, negsuc, List, [], ◌∷◌, length, take, codes, Bool, true, false, not, ◌&&◌, ◌||◌, ◌==◌, nat_le, Option, Some, None, is_some, option_and_then, unwrap_or}
use Rattle.std.specs.List.{list_any}
use Rattle.std.specs.Str.{bytes_eq}
use Rattle.serde_json.specs.Data.{Data, Items, no_items, item, Members}
use Rattle.serde_json.specs.Find.{get, as_bool, as_number, as_i64, as_str, as_array, as_object}
use Rattle.serde_json.specs.Events.{members_len}
use Rattle.bf_plan.specs.Ids.{is_id_in}
use Rattle.bf_plan.specs.Kinds.{kind_named, weight_rule_named, context_named}
use Rattle.bf_rule.specs.Names.{rule_named}
use Rattle.bf_read.specs.Limits.{most_tasks, most_words, longest_word}
use Rattle.bf_findings.specs.declared.form.Form.{Form}
use Rattle.bf_findings.specs.declared.form.Form.TheVariants.{Object, Id, NewId, Schedule, Zone, Whole, Pools, Tasks, Upstreams, Words, Flag, Rule, Kind, WeightRule, TaskId, PoolName, Word, Context, Item}
use Rattle.bf_findings.specs.Places.{word_key_name, word_keys}

-- ---- the tasks and the pools of a document

-- the items of a list
abbrev pub list_of : Items → List Data
list_of no_items = []
list_of (item d ds) = d ∷ list_of ds

abbrev pub items_or_none : Option Items → List Data
items_or_none None = []
items_or_none (Some ds) = list_of ds

-- the tasks, of which there are none where no list of them is there
abbrev pub tasks_at : Data → List Data
tasks_at d = items_or_none (option_and_then as_array (get (codes "tasks") d))

abbrev pub is_text : List ℕ → Option (List ℕ) → Bool
is_text id None = false
is_text id (Some text) = bytes_eq text id

-- the text that a task has under `id`
abbrev pub id_in : Data → Option (List ℕ)
id_in task = option_and_then as_str (get (codes "id") task)

abbrev pub has_id_in : List ℕ → Data → Bool
has_id_in id task = is_text id (id_in task)

-- a task has the id
abbrev pub is_task_id_in : Data → List ℕ → Bool
is_task_id_in d id = list_any (has_id_in id) (tasks_at d)

-- one of the first n tasks has the id
abbrev pub is_task_id_before_in : Data → ℕ → List ℕ → Bool
is_task_id_before_in d n id = list_any (has_id_in id) (take n (tasks_at d))

-- the pools, where an object of them is there
abbrev pub pools_at : Data → Option Members
pools_at d = option_and_then as_object (get (codes "pools") d)

-- the default pool, or one that is named
abbrev pub is_pool_name_in : Data → List ℕ → Bool
is_pool_name_in d name =
    bytes_eq name (codes "default_pool")
    || is_some (option_and_then (get name) (get (codes "pools") d))

-- ---- texts

-- a text may stand where this form may; what a schedule and a zone say isn't looked at
abbrev pub text_fits_in : Data → Form → List ℕ → Bool
text_fits_in d Schedule text = true
text_fits_in d Zone text = true
text_fits_in d Id text = is_id_in text
text_fits_in d (NewId n) text = is_id_in text && not (is_task_id_before_in d n text)
text_fits_in d Rule text = is_some (rule_named text)
text_fits_in d Kind text = is_some (kind_named text)
text_fits_in d WeightRule text = is_some (weight_rule_named text)
text_fits_in d Context text = is_some (context_named text)
text_fits_in d TaskId text = is_task_id_in d text
text_fits_in d PoolName text = is_pool_name_in d text
text_fits_in d Word text = nat_le (length text) longest_word
text_fits_in d _ text = false

-- ---- other values

abbrev pub is_between_in : ℕ → ℕ → ℤ → Bool
is_between_in least most (pos n) = nat_le least n && nat_le n most
is_between_in least most (negsuc n) = false

abbrev pub is_between_if : ℕ → ℕ → Option ℤ → Bool
is_between_if least most None = false
is_between_if least most (Some n) = is_between_in least most n

-- a whole number from one to another
abbrev pub is_whole_number_between_in : ℕ → ℕ → Data → Bool
is_whole_number_between_in least most d = is_between_if least most (option_and_then as_i64 (as_number d))

abbrev pub are_at_most : ℕ → Option Items → Bool
are_at_most most None = false
are_at_most most (Some ds) = nat_le (length (list_of ds)) most

-- a list of at most so many items
abbrev pub has_at_most_items_in : ℕ → Data → Bool
has_at_most_items_in most d = are_at_most most (as_array d)

abbrev pub are_one : Option Members → Bool
are_one None = false
are_one (Some ms) = members_len ms == 1

-- an object with one key, which is one of a word
abbrev pub is_word_object_in : Data → Bool
is_word_object_in d =
    are_one (as_object d) && list_any (λ key. is_some (get (word_key_name key) d)) word_keys

-- a value that is no text may stand where this form may
abbrev pub non_text_fits_in : Form → Data → Bool
non_text_fits_in Object d = is_some (as_object d)
non_text_fits_in Pools d = is_some (as_object d)
non_text_fits_in (Whole least most) d = is_whole_number_between_in least most d
non_text_fits_in Tasks d = has_at_most_items_in most_tasks d
non_text_fits_in Words d = has_at_most_items_in most_words d
non_text_fits_in Upstreams d = is_some (as_array d)
non_text_fits_in Flag d = is_some (as_bool d)
non_text_fits_in Word d = is_word_object_in d
non_text_fits_in Item d = unwrap_or (as_bool d) false
non_text_fits_in _ d = false
