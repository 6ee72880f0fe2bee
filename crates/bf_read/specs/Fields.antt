-- What is read of the members of JSON objects.
use Rattle.std.specs.Prelude.{ℕ, ℤ, pos, negsuc, ◌&&◌, List, [], ◌∷◌, Bool, true, false, nat_le, if◌then◌else◌, Option, Some, None, option_and_then, Result, Ok, Err}
use Rattle.serde_json.specs.Data.{Data, Items, no_items, item, Members, no_members, member}
use Rattle.serde_json.specs.Find.{get, as_bool, as_number, as_i64, as_str, as_array, as_object}
use Rattle.bf_read.specs.declared.path.Path.{Path}
use Rattle.bf_read.specs.declared.keys.GraphKey.{GraphKey}
use Rattle.bf_read.specs.declared.keys.TaskKey.{TaskKey}
use Rattle.bf_read.specs.declared.draft.PoolDraft.{PoolDraft}
use Rattle.bf_read.specs.Limits.{most_slots}
use Rattle.bf_plan.specs.declared.kinds.TaskKind.{TaskKind}
use Rattle.bf_plan.specs.declared.kinds.WeightRule.{WeightRule}
use Rattle.bf_plan.specs.Ids.{is_id_in}
use Rattle.bf_plan.specs.Kinds.{kind_named, weight_rule_named}
use Rattle.bf_read.specs.declared.fault.ReadFault.{ReadFault}
use Rattle.bf_read.specs.declared.fault.ReadFault.TheVariants.{Shape, BadName, LimitPassed}
use Rattle.bf_read.specs.declared.fields.ObjectKind.{ObjectKind}
use Rattle.bf_read.specs.Drafts.{distinct_texts_of}
use Rattle.bf_read.specs.Gives.{◌>>=◌}
use Rattle.bf_read.specs.Keys.{graph_key_name, task_key_name, is_graph_key_in, is_task_key_in}

-- a value and its place, where the value may be missing
pub record Member : Type 0 where
  pub path : Path
  pub value : Option Data

-- the members of the object of the whole file, and of a task's
abbrev pub graph_member : Data → GraphKey → Member
graph_member d key = record { path = Path.Key key; value = get (graph_key_name key) d }

abbrev pub task_member : ℕ → Data → TaskKey → Member
task_member n d key = record { path = Path.TaskKey n key; value = get (task_key_name key) d }

-- a value, or a fault at its path
abbrev pub or_shape : {A : Type 0} → Path → Option A → Result A ReadFault
or_shape p None = Err (Shape p)
or_shape p (Some x) = Ok x

-- a value of a type, which has to be there
abbrev pub typed : {A : Type 0} → (Data → Option A) → Member → Result A ReadFault
typed type_of m = or_shape m.path (option_and_then type_of m.value)

-- what is read of a value, or what stands for a missing one
abbrev pub if_there : {A : Type 0} → Option Data → A → Result A ReadFault → Result A ReadFault
if_there None default read = Ok default
if_there (Some d) default read = read

-- a value that is there
abbrev pub field_with_value_in : Path → Data → Member
field_with_value_in p d = record { path = p; value = Some d }

-- ---- objects and their keys

abbrev pub is_key_in : ObjectKind → List ℕ → Bool
is_key_in ObjectKind.Graph name = is_graph_key_in name
is_key_in ObjectKind.Task name = is_task_key_in name

abbrev pub has_known_keys_in : ObjectKind → Members → Bool
has_known_keys_in kind no_members = true
has_known_keys_in kind (member k d ms) = is_key_in kind k && has_known_keys_in kind ms

abbrev pub known : ObjectKind → Path → Members → Result (Unit {0}) ReadFault
known kind p ms = if has_known_keys_in kind ms then Ok tt else Err (Shape p)

-- an object without an unknown key
unfoldable pub refuse_other_object_in : ObjectKind → Path → Data → Result (Unit {0}) ReadFault
refuse_other_object_in kind p d = do
  ms ← or_shape p (as_object d)
  known kind p ms

-- ---- texts and ids

-- the text of a value that has to be there
unfoldable pub text_of : Member → Result (List ℕ) ReadFault
text_of = typed as_str

-- a text, or what stands for a missing one
unfoldable pub text_or_in : List ℕ → Member → Result (List ℕ) ReadFault
text_or_in default m = if_there m.value default (text_of m)

-- the source of the items of a task, if it has one
unfoldable pub expansion_source_in : Member → Result (Option (List ℕ)) ReadFault
expansion_source_in m = if_there m.value None (text_of m >>= λ s. Ok (Some s))

-- a text that has to be an id
unfoldable pub id_of_text_in : Path → List ℕ → Result (List ℕ) ReadFault
id_of_text_in p s = if is_id_in s then Ok s else Err (BadName p)

-- an id that has to be there
unfoldable pub id_in : Member → Result (List ℕ) ReadFault
id_in m = do
  s ← text_of m
  id_of_text_in m.path s

-- ---- truth values and numbers

-- a truth value, which is false where it is missing
unfoldable pub flag_in : Member → Result Bool ReadFault
flag_in m = if_there m.value false (typed as_bool m)

-- a whole number that has to be there
unfoldable pub whole_number_in : Member → Result ℤ ReadFault
whole_number_in = typed (λ d. option_and_then as_i64 (as_number d))

-- a number between these two
unfoldable pub number_within_of : Path → ℕ → ℕ → ℤ → Result ℕ ReadFault
number_within_of p least most (pos n) =
    if nat_le least n && nat_le n most then Ok n else Err (LimitPassed p)
number_within_of p least most (negsuc n) = Err (LimitPassed p)

-- a whole number between these two, or what stands for a missing one
unfoldable pub count_in : ℕ → ℕ → ℕ → Member → Result ℕ ReadFault
count_in default least most m =
    if_there m.value default (whole_number_in m >>= number_within_of m.path least most)

-- a limit that has to hold
unfoldable pub refuse_beyond_limit_of : Path → Bool → Result (Unit {0}) ReadFault
refuse_beyond_limit_of p holds = if holds then Ok tt else Err (LimitPassed p)

-- ---- lists

-- the list of a value that has to be there
unfoldable pub items_in : Member → Result Items ReadFault
items_in = typed as_array

-- what is read of each item
unfoldable pub each_item : {A : Type 0} → (Data → Result A ReadFault) → Items
    → Result (List A) ReadFault
each_item f no_items = Ok []
each_item f (item d ds) = do
  x ← f d
  xs ← each_item f ds
  Ok (x ∷ xs)

-- what is read of each member, by its name
unfoldable pub each_member : {A : Type 0} → (List ℕ → Data → Result A ReadFault) → Members
    → Result (List A) ReadFault
each_member f no_members = Ok []
each_member f (member name d ms) = do
  x ← f name d
  xs ← each_member f ms
  Ok (x ∷ xs)

-- the texts of a list of texts
abbrev pub texts_of : Path → Items → Result (List (List ℕ)) ReadFault
texts_of p = each_item (λ d. text_of (field_with_value_in p d))

-- the distinct upstreams of a task; none where the key is missing
unfoldable pub upstreams_in : Member → Result (List (List ℕ)) ReadFault
upstreams_in m = if_there m.value [] (do
  ds ← items_in m
  ss ← texts_of m.path ds
  Ok (distinct_texts_of ss))

-- ---- pools

-- the members of a value that has to be there
unfoldable pub members_in : Member → Result Members ReadFault
members_in = typed as_object

-- a pool of this name
unfoldable pub pool_in : Path → List ℕ → Data → Result PoolDraft ReadFault
pool_in p text d = do
  number ← whole_number_in (field_with_value_in p d)
  name ← id_of_text_in p text
  slots ← number_within_of p 1 most_slots number
  Ok (record { name = name; slots = slots })

-- the pools by name, as members stand in an object; none where the key is missing
unfoldable pub pools_in : Member → Result (List PoolDraft) ReadFault
pools_in m = if_there m.value [] (members_in m >>= each_member (pool_in m.path))

-- ---- names

-- a program where it is missing
unfoldable pub kind_in : Member → Result TaskKind ReadFault
kind_in m = if_there m.value TaskKind.Program (text_of m >>= λ s. or_shape m.path (kind_named s))

-- that of downstreams where it is missing
unfoldable pub weight_rule_in : Member → Result WeightRule ReadFault
weight_rule_in m =
    if_there m.value WeightRule.Downstream
    (text_of m >>= λ s. or_shape m.path (weight_rule_named s))
