-- Where something stands in a document is among its places.
use Rattle.std.proofs.Common.{◌≡◌, ℕ, zero, suc, ◌+◌, List, [], ◌∷◌, ◌++◌, Bool, true, false, if◌then◌else◌, map, filter_map, codes, Option, Some, None, IsSome, is_some, option_and_then, refl, sym, subst, ap, ◌∙◌, append_assoc, arith, inl, inr}
use Rattle.std.specs.List.{Contains, cons_option}
use Rattle.std.specs.Ordering.{nat_cmp, match_ordering, is_eq}
use Rattle.std.specs.declared.cmp.Ordering.{Ordering}
use Rattle.std.specs.declared.cmp.Ordering.TheVariants.{Less, Equal, Greater}
use Rattle.std.specs.Cmp.Lexicographic.{slice_cmp, bytes_decides}
use Rattle.std.proofs.lemmas.Map.Text.{is_eq-slice_cmp}
use Rattle.std.proofs.lemmas.List.Elements.{Contains-append_left, Contains-append_right}
use Rattle.serde_json.specs.Data.{Data, null, boolean, number, string, array, object, Items, no_items, item, Members, no_members, member}
use Rattle.serde_json.specs.Find.{get, get_member, get_item, at, as_array, as_object}
use Rattle.bf_read.specs.declared.keys.GraphKey.{GraphKey}
use Rattle.bf_read.specs.declared.keys.GraphKey.TheVariants as graph
use Rattle.bf_read.specs.declared.keys.TaskKey.{TaskKey}
use Rattle.bf_read.specs.declared.keys.TaskKey.TheVariants as key
use Rattle.bf_read.specs.Keys.{graph_keys, task_keys, is_graph_key_in, is_task_key_in, task_key_name}
use Rattle.bf_findings.specs.declared.place.DocumentPlace.{DocumentPlace}
use Rattle.bf_findings.specs.declared.place.DocumentPlace.TheVariants as place
use Rattle.bf_findings.specs.declared.place.WordKey.{WordKey}
use Rattle.bf_findings.specs.declared.place.WordKey.TheVariants as word
use Rattle.bf_findings.specs.Places.{value_in, task_value, item_value, word_key_name, word_keys}
use Rattle.bf_findings.specs.Fitting.{items_or_none, list_of, pools_at, tasks_at}
use Rattle.bf_findings.specs.Listed.{graph_key_places, task_key_places, other_keys, pools_of, pools_if_any, other_task_keys, items_in, upstreams, word_key, word_keys_of, words, members_of_task, task_places, tasks, members_of_graph, places_in}
use Rattle.bf_findings.specs.EachPlace.{IsPlace}
use Rattle.bf_findings.proofs.PlaceLemmas.{cons_cases}

-- ---- lists

contains_mapped : {X Y : Type 0} (f : X → Y) (xs : List X) (x : X) → Contains xs x → Contains (map f xs) (f x)
contains_mapped f [] x h = absurd (omega (arith, h.1))
contains_mapped f (y ∷ ys) x h = elim (cons_cases y ys x h.0 h.1 h.2) as (λ _. Contains (map f (y ∷ ys)) (f x)) [
  | inl e ↦ (0, omega arith, ap f e)
  | inr t ↦ Contains-append_right (f y ∷ []) (map f ys) (f x) (contains_mapped f ys x t)
]

optional_first : {Y : Type 0} (o : Option Y) (y : Y) (ys : List Y) → o ≡ Some y → Contains (cons_option o ys) y
optional_first None y ys e = cc
optional_first (Some z) y ys e = let same : z ≡ y = cc in (0, omega arith, same)

optional_rest : {Y : Type 0} (o : Option Y) (y : Y) (ys : List Y) → Contains ys y → Contains (cons_option o ys) y
optional_rest None y ys h = h
optional_rest (Some z) y ys h = Contains-append_right (z ∷ []) ys y h

contains_filtered : {X Y : Type 0} (f : X → Option Y) (xs : List X) (x : X) (y : Y) → f x ≡ Some y → Contains xs x → Contains (filter_map f xs) y
contains_filtered f [] x y e h = absurd (omega (arith, h.1))
contains_filtered f (z ∷ zs) x y e h = elim (cons_cases z zs x h.0 h.1 h.2) as (λ _. Contains (filter_map f (z ∷ zs)) y) [
  | inl same ↦ optional_first (f z) y (filter_map f zs) (ap f same ∙ e)
  | inr t ↦ optional_rest (f z) y (filter_map f zs) (contains_filtered f zs x y e t)
]

some_of : {X : Type 0} (o : Option X) → IsSome o → (x : X) × (o ≡ Some x)
some_of None h = cc
some_of (Some x) h = (x, refl)

then_some : {X Y : Type 0} (f : X → Option Y) (o : Option X) (y : Y) → option_and_then f o ≡ Some y → (x : X) × (o ≡ Some x) × (f x ≡ Some y)
then_some f None y e = cc
then_some f (Some x) y e = (x, refl, e)

-- ---- keys

graph_key_there : (k : GraphKey) → Contains graph_keys k
graph_key_there graph.DagId = (0, omega arith, refl)
graph_key_there graph.Schedule = (1, omega arith, refl)
graph_key_there graph.Zone = (2, omega arith, refl)
graph_key_there graph.MaxActiveRuns = (3, omega arith, refl)
graph_key_there graph.Pools = (4, omega arith, refl)
graph_key_there graph.Tasks = (5, omega arith, refl)

task_key_there : (k : TaskKey) → Contains task_keys k
task_key_there key.Id = (0, omega arith, refl)
task_key_there key.Upstream = (1, omega arith, refl)
task_key_there key.Rule = (2, omega arith, refl)
task_key_there key.Kind = (3, omega arith, refl)
task_key_there key.Command = (4, omega arith, refl)
task_key_there key.Expand = (5, omega arith, refl)
task_key_there key.DependsOnPast = (6, omega arith, refl)
task_key_there key.Retries = (7, omega arith, refl)
task_key_there key.RetryDelay = (8, omega arith, refl)
task_key_there key.Pool = (9, omega arith, refl)
task_key_there key.PoolSlots = (10, omega arith, refl)
task_key_there key.PriorityWeight = (11, omega arith, refl)
task_key_there key.WeightRule = (12, omega arith, refl)

word_key_there : (k : WordKey) → Contains word_keys k
word_key_there word.Context = (0, omega arith, refl)
word_key_there word.Pull = (1, omega arith, refl)
word_key_there word.Item = (2, omega arith, refl)

-- ---- members

later_if : (b : Bool) (y : DocumentPlace) (ps : List DocumentPlace) (x : DocumentPlace) → Contains ps x → Contains (if b then ps else (y ∷ ps)) x
later_if true y ps x h = h
later_if false y ps x h = Contains-append_right (y ∷ []) ps x h

here_if : (b : Bool) (y : DocumentPlace) (ps : List DocumentPlace) → b ≡ false → Contains (if b then ps else (y ∷ ps)) y
here_if true y ps e = absurd (cc)
here_if false y ps e = (0, omega arith, refl)

same_text : (a b : List ℕ) → Equal ≡ slice_cmp nat_cmp a b → a ≡ b
same_text a b e = (bytes_decides a b).0 (sym (is_eq-slice_cmp a b) ∙ ap is_eq (sym e))

member_step : (known : List ℕ → Bool) (under : List ℕ → DocumentPlace) (name l : List ℕ) (e : Data) (rest : Option Data) (ps : List DocumentPlace) (o : Ordering) → o ≡ slice_cmp nat_cmp name l → known name ≡ false
    → (IsSome rest → Contains ps (under name)) → IsSome (match_ordering o rest (Some e) rest) → Contains (if known l then ps else (under l ∷ ps)) (under name)
member_step known under name l e rest ps Less is other more there = later_if (known l) (under l) ps (under name) (more there)
member_step known under name l e rest ps Equal is other more there =
    let same : name ≡ l = same_text name l is in
    let P : List ℕ → Type 0 = λ k. Contains (if known l then ps else (under l ∷ ps)) (under k) in
    subst P (sym same) (here_if (known l) (under l) ps (ap known (sym same) ∙ other))
member_step known under name l e rest ps Greater is other more there = later_if (known l) (under l) ps (under name) (more there)

other_listed : (name : List ℕ) (ms : Members) → is_graph_key_in name ≡ false → IsSome (get_member name ms) → Contains (other_keys ms) (place.OtherKey name)
other_listed name no_members other there = absurd (cc)
other_listed name (member l e ms) other there = member_step is_graph_key_in place.OtherKey name l e (get_member name ms) (other_keys ms) (slice_cmp nat_cmp name l) refl other (other_listed name ms other) there

other_task_listed : (n : ℕ) (name : List ℕ) (ms : Members) → is_task_key_in name ≡ false → IsSome (get_member name ms) → Contains (other_task_keys n ms) (place.OtherTaskKey n name)
other_task_listed n name no_members other there = absurd (cc)
other_task_listed n name (member l e ms) other there = member_step is_task_key_in (place.OtherTaskKey n) name l e (get_member name ms) (other_task_keys n ms) (slice_cmp nat_cmp name l) refl other (other_task_listed n name ms other) there

pool_listed : (name : List ℕ) (ms : Members) → IsSome (get_member name ms) → Contains (pools_of ms) (place.Pool name)
pool_listed name no_members there = absurd (cc)
pool_listed name (member l e ms) there = member_step (λ _. false) place.Pool name l e (get_member name ms) (pools_of ms) (slice_cmp nat_cmp name l) refl refl (pool_listed name ms) there

-- an object that has a key
object_of : (d : Data) (name : List ℕ) (v : Data) → get name d ≡ Some v → (ms : Members) × (as_object d ≡ Some ms) × (get_member name ms ≡ Some v)
object_of null name v e = cc
object_of (boolean b) name v e = cc
object_of (number n) name v e = cc
object_of (string s) name v e = cc
object_of (array ds) name v e = cc
object_of (object ms) name v e = (ms, refl, e)

-- ---- items

array_of : (v : Data) (i : ℕ) (x : Data) → at i v ≡ Some x → (ds : Items) × (as_array v ≡ Some ds) × (get_item i ds ≡ Some x)
array_of null i x e = cc
array_of (boolean b) i x e = cc
array_of (number n) i x e = cc
array_of (string s) i x e = cc
array_of (array ds) i x e = (ds, refl, e)
array_of (object ms) i x e = cc

task_listed : (n m k : ℕ) (ds : Items) (t : Data) (x : DocumentPlace) → get_item n ds ≡ Some t → k ≡ m + n → Contains (task_places k t) x → Contains (tasks m (list_of ds)) x
task_listed n m k no_items t x there e h = absurd (cc)
task_listed zero m k (item d ds) t x there e h =
    let same : t ≡ d = cc in
    let number : k ≡ m = omega (arith, e) in
    let P : ℕ → Type 0 = λ j. Contains (task_places j t) x in
    let Q : Data → Type 0 = λ u. Contains (task_places m u) x in
    Contains-append_left (task_places m d) (tasks (m + 1) (list_of ds)) x (subst Q same (subst P number h))
task_listed (suc n) m k (item d ds) t x there e h = Contains-append_right (task_places m d) (tasks (m + 1) (list_of ds)) x (task_listed n (m + 1) k ds t x there (omega (arith, e)) h)

upstream_listed : (n i m k : ℕ) (ds : Items) (t : Data) → get_item i ds ≡ Some t → k ≡ m + i → Contains (upstreams n m (list_of ds)) (place.Upstream n k)
upstream_listed n i m k no_items t there e = absurd (cc)
upstream_listed n zero m k (item d ds) t there e =
    let number : m ≡ k = omega (arith, e) in
    (0, omega arith, ap (place.Upstream n) number)
upstream_listed n (suc i) m k (item d ds) t there e = Contains-append_right (place.Upstream n m ∷ []) (upstreams n (m + 1) (list_of ds)) (place.Upstream n k) (upstream_listed n i (m + 1) k ds t there (omega (arith, e)))

word_listed : (n i m k : ℕ) (ds : Items) (w : Data) (x : DocumentPlace) → get_item i ds ≡ Some w → k ≡ m + i → Contains (place.Word n k ∷ word_keys_of n k w) x → Contains (words n m (list_of ds)) x
word_listed n i m k no_items w x there e h = absurd (cc)
word_listed n zero m k (item d ds) w x there e h =
    let same : w ≡ d = cc in
    let number : k ≡ m = omega (arith, e) in
    let P : ℕ → Type 0 = λ j. Contains (place.Word n j ∷ word_keys_of n j w) x in
    let Q : Data → Type 0 = λ u. Contains (place.Word n m ∷ word_keys_of n m u) x in
    Contains-append_left (place.Word n m ∷ word_keys_of n m d) (words n (m + 1) (list_of ds)) x (subst Q same (subst P number h))
word_listed n (suc i) m k (item d ds) w x there e h = Contains-append_right (place.Word n m ∷ word_keys_of n m d) (words n (m + 1) (list_of ds)) x (word_listed n i (m + 1) k ds w x there (omega (arith, e)) h)

-- ---- the whole

in_graph : (d : Data) (ms : Members) (x : DocumentPlace) → as_object d ≡ Some ms → Contains (graph_key_places ++ (other_keys ms ++ (pools_if_any (pools_at d) ++ tasks 0 (tasks_at d)))) x → Contains (places_in d) x
in_graph d ms x e h =
    let pools = pools_if_any (pools_at d) in
    let behind = tasks 0 (tasks_at d) in
    let P : Option Members → Type 0 = λ o. Contains ((place.Top ∷ members_of_graph d o) ++ behind) x in
    let Q : List DocumentPlace → Type 0 = λ ps. Contains ps x in
    let whole : (graph_key_places ++ (other_keys ms ++ pools)) ++ behind ≡ graph_key_places ++ (other_keys ms ++ (pools ++ behind)) =
    append_assoc graph_key_places (other_keys ms ++ pools) behind ∙ ap (λ ps. graph_key_places ++ ps) (append_assoc (other_keys ms) pools behind) in
    subst P (sym e) (subst Q (ap (λ ps. place.Top ∷ ps) (sym whole)) (Contains-append_right (place.Top ∷ []) (graph_key_places ++ (other_keys ms ++ (pools ++ behind))) x h))

-- the places of a task
in_tasks : (d : Data) (n : ℕ) (t : Data) (x : DocumentPlace) → task_value d n ≡ Some t → Contains (task_places n t) x → Contains (places_in d) x
in_tasks d n t x e h =
    let listed = then_some (at n) (get (codes "tasks") d) t e in
    let graph = object_of d (codes "tasks") listed.0 listed.1 in
    let items = array_of listed.0 n t listed.2 in
    let all : tasks_at d ≡ list_of items.0 = ap (λ (o : Option Data). items_or_none (option_and_then as_array o)) listed.1 ∙ ap items_or_none items.1 in
    let P : List Data → Type 0 = λ ts. Contains (tasks 0 ts) x in
    let there = subst P (sym all) (task_listed n 0 n items.0 t x items.2 (omega arith) h) in
    in_graph d graph.0 x graph.1 (Contains-append_right graph_key_places (other_keys graph.0 ++ (pools_if_any (pools_at d) ++ tasks 0 (tasks_at d))) x
    (Contains-append_right (other_keys graph.0) (pools_if_any (pools_at d) ++ tasks 0 (tasks_at d)) x (Contains-append_right (pools_if_any (pools_at d)) (tasks 0 (tasks_at d)) x there)))

in_task : (n : ℕ) (t : Data) (ms : Members) (x : DocumentPlace) → as_object t ≡ Some ms
    → Contains (task_key_places n ++ (other_task_keys n ms ++ (upstreams n 0 (items_in t key.Upstream) ++ words n 0 (items_in t key.Command)))) x → Contains (task_places n t) x
in_task n t ms x e h =
    let P : Option Members → Type 0 = λ o. Contains (place.Task n ∷ members_of_task n t o) x in
    subst P (sym e) (Contains-append_right (place.Task n ∷ []) (task_key_places n ++ (other_task_keys n ms ++ (upstreams n 0 (items_in t key.Upstream) ++ words n 0 (items_in t key.Command)))) x h)

-- the items of a task's list
record HasItem (d : Data) (n : ℕ) (named : TaskKey) (i : ℕ) (x : Data) : Type 0 where
  task : Data
  members : Members
  items : Items
  is_task : task_value d n ≡ Some task
  is_object : as_object task ≡ Some members
  are : items_in task named ≡ list_of items
  there : get_item i items ≡ Some x

item_there : (d : Data) (n : ℕ) (named : TaskKey) (i : ℕ) (x : Data) → item_value d n named i ≡ Some x → HasItem d n named i x
item_there d n named i x e =
    let listed = then_some (at i) (option_and_then (get (task_key_name named)) (task_value d n)) x e in
    let task = then_some (get (task_key_name named)) (task_value d n) listed.0 listed.1 in
    let items = array_of listed.0 i x listed.2 in
    let object = object_of task.0 (task_key_name named) listed.0 task.2 in
    record {
      task = task.0;
      members = object.0;
      items = items.0;
      is_task = task.1;
      is_object = object.1;
      are = ap (λ (o : Option Data). items_or_none (option_and_then as_array o)) task.2 ∙ ap items_or_none items.1;
      there = items.2;
    }

in_words : (d : Data) (n i : ℕ) (w : Data) (x : DocumentPlace) → item_value d n key.Command i ≡ Some w → Contains (place.Word n i ∷ word_keys_of n i w) x → Contains (places_in d) x
in_words d n i w x e h =
    let has = item_there d n key.Command i w e in
    let t = has.task in
    let P : List Data → Type 0 = λ ds. Contains (words n 0 ds) x in
    let there = subst P (sym has.are) (word_listed n i 0 i has.items w x has.there (omega arith) h) in
    in_tasks d n t x has.is_task (in_task n t has.members x has.is_object
    (Contains-append_right (task_key_places n) (other_task_keys n has.members ++ (upstreams n 0 (items_in t key.Upstream) ++ words n 0 (items_in t key.Command))) x
    (Contains-append_right (other_task_keys n has.members) (upstreams n 0 (items_in t key.Upstream) ++ words n 0 (items_in t key.Command)) x
    (Contains-append_right (upstreams n 0 (items_in t key.Upstream)) (words n 0 (items_in t key.Command)) x there))))

word_key_is : (n i : ℕ) (w : Data) (k : WordKey) → is_some (get (word_key_name k) w) ≡ true → word_key n i w k ≡ Some (place.WordKey n i k)
word_key_is n i w k e = ap (λ (b : Bool). if b then Some (place.WordKey n i k) else None) e

pub each_place : (d : Data) (p : DocumentPlace) → IsPlace d p → Contains (places_in d) p
each_place d place.Top h = (0, omega arith, refl)
each_place d (place.Key k) h =
    let ms = some_of (as_object d) h in
    in_graph d ms.0 (place.Key k) ms.1 (Contains-append_left graph_key_places (other_keys ms.0 ++ (pools_if_any (pools_at d) ++ tasks 0 (tasks_at d))) (place.Key k) (contains_mapped place.Key graph_keys k (graph_key_there k)))
each_place d (place.OtherKey name) h =
    let v = some_of (get name d) h.1 in
    let ms = object_of d name v.0 v.1 in
    in_graph d ms.0 (place.OtherKey name) ms.1 (Contains-append_right graph_key_places (other_keys ms.0 ++ (pools_if_any (pools_at d) ++ tasks 0 (tasks_at d))) (place.OtherKey name)
    (Contains-append_left (other_keys ms.0) (pools_if_any (pools_at d) ++ tasks 0 (tasks_at d)) (place.OtherKey name) (other_listed name ms.0 h.0 (ap is_some ms.2))))
each_place d (place.Pool name) h =
    let v = some_of (value_in d (place.Pool name)) h in
    let named = then_some (get name) (get (codes "pools") d) v.0 v.1 in
    let graph = object_of d (codes "pools") named.0 named.1 in
    let ms = object_of named.0 name v.0 named.2 in
    let all : pools_at d ≡ Some ms.0 = ap (λ (o : Option Data). option_and_then as_object o) named.1 ∙ ms.1 in
    let P : Option Members → Type 0 = λ o. Contains (pools_if_any o) (place.Pool name) in
    let there = subst P (sym all) (pool_listed name ms.0 (ap is_some ms.2)) in
    in_graph d graph.0 (place.Pool name) graph.1 (Contains-append_right graph_key_places (other_keys graph.0 ++ (pools_if_any (pools_at d) ++ tasks 0 (tasks_at d))) (place.Pool name)
    (Contains-append_right (other_keys graph.0) (pools_if_any (pools_at d) ++ tasks 0 (tasks_at d)) (place.Pool name)
    (Contains-append_left (pools_if_any (pools_at d)) (tasks 0 (tasks_at d)) (place.Pool name) there)))
each_place d (place.Task n) h = let t = some_of (task_value d n) h in in_tasks d n t.0 (place.Task n) t.1 (0, omega arith, refl)
each_place d (place.TaskKey n k) h =
    let object = some_of (option_and_then as_object (task_value d n)) h in
    let t = then_some as_object (task_value d n) object.0 object.1 in
    in_tasks d n t.0 (place.TaskKey n k) t.1 (in_task n t.0 object.0 (place.TaskKey n k) t.2
    (Contains-append_left (task_key_places n) (other_task_keys n object.0 ++ (upstreams n 0 (items_in t.0 key.Upstream) ++ words n 0 (items_in t.0 key.Command))) (place.TaskKey n k)
    (contains_mapped (place.TaskKey n) task_keys k (task_key_there k))))
each_place d (place.OtherTaskKey n name) h =
    let v = some_of (option_and_then (get name) (task_value d n)) h.1 in
    let t = then_some (get name) (task_value d n) v.0 v.1 in
    let ms = object_of t.0 name v.0 t.2 in
    in_tasks d n t.0 (place.OtherTaskKey n name) t.1 (in_task n t.0 ms.0 (place.OtherTaskKey n name) ms.1
    (Contains-append_right (task_key_places n) (other_task_keys n ms.0 ++ (upstreams n 0 (items_in t.0 key.Upstream) ++ words n 0 (items_in t.0 key.Command))) (place.OtherTaskKey n name)
    (Contains-append_left (other_task_keys n ms.0) (upstreams n 0 (items_in t.0 key.Upstream) ++ words n 0 (items_in t.0 key.Command)) (place.OtherTaskKey n name) (other_task_listed n name ms.0 h.0 (ap is_some ms.2)))))
each_place d (place.Upstream n i) h =
    let u = some_of (item_value d n key.Upstream i) h in
    let has = item_there d n key.Upstream i u.0 u.1 in
    let t = has.task in
    let x = place.Upstream n i in
    let P : List Data → Type 0 = λ ds. Contains (upstreams n 0 ds) x in
    let there = subst P (sym has.are) (upstream_listed n i 0 i has.items u.0 has.there (omega arith)) in
    in_tasks d n t x has.is_task (in_task n t has.members x has.is_object
    (Contains-append_right (task_key_places n) (other_task_keys n has.members ++ (upstreams n 0 (items_in t key.Upstream) ++ words n 0 (items_in t key.Command))) x
    (Contains-append_right (other_task_keys n has.members) (upstreams n 0 (items_in t key.Upstream) ++ words n 0 (items_in t key.Command)) x
    (Contains-append_left (upstreams n 0 (items_in t key.Upstream)) (words n 0 (items_in t key.Command)) x there))))
each_place d (place.Word n i) h = let w = some_of (item_value d n key.Command i) h in in_words d n i w.0 (place.Word n i) w.1 (0, omega arith, refl)
each_place d (place.WordKey n i k) h =
    let v = some_of (option_and_then (get (word_key_name k)) (item_value d n key.Command i)) h in
    let w = then_some (get (word_key_name k)) (item_value d n key.Command i) v.0 v.1 in
    in_words d n i w.0 (place.WordKey n i k) w.1 (Contains-append_right (place.Word n i ∷ []) (word_keys_of n i w.0) (place.WordKey n i k)
    (contains_filtered (word_key n i w.0) word_keys k (place.WordKey n i k) (word_key_is n i w.0 k (ap is_some w.2)) (word_key_there k)))
