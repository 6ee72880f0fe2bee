-- Tasks, read one after another.
use Rattle.std.proofs.Common.{◌≡◌, ◌≢◌, ℕ, suc, ◌<◌, ◌≤◌, ◌+◌, List, [], ◌∷◌, ◌++◌, ◌||◌, length, nat_le, All, AllPairs, get_or, map, drop, Ok, refl, sym, ap, ◌∙◌, subst, arith, true≢false, length-append}
use Rattle.std.specs.List.{list_any}
use Rattle.std.specs.Str.{bytes_eq}
use Rattle.std.specs.Cmp.Lexicographic.{bytes_decides}
use Rattle.std.proofs.lemmas.List.{map-append}
use Rattle.std.proofs.lemmas.List.Elements.{All-push}
use Rattle.std.proofs.lemmas.List.Folds.{list_any_at}
use Rattle.std.proofs.lemmas.List.Quantifiers.{all_pairs_push}
use Rattle.std.proofs.lemmas.List.Sums.{sum_by-append}
use Rattle.serde_json.specs.Events.{items_len}
use Rattle.serde_json.specs.View.{view, items_view}
use Rattle.serde_json.specs.declared.value.Value.{Value}
use Rattle.bf_read.specs.declared.draft.TaskDraft.{TaskDraft}
use Rattle.bf_read.specs.Limits.{most_tasks, most_edges}
use Rattle.bf_read.specs.declared.path.Path.{Path}
use Rattle.bf_read.specs.Gives.{◌>>=◌}
use Rattle.bf_read.specs.Drafts.{number_of_edges, HaveDistinctIds, IsTask}
use Rattle.bf_read.specs.inner.Drafts.{MayFollow}
use Rattle.bf_read.specs.Fields.{refuse_beyond_limit_of}
use Rattle.bf_read.specs.Reading.{task_in, tasks_from}
use Rattle.bf_read.proofs.FieldLemmas.{rest_from}

-- ---- how many

items_len_items_view : (vs : List Value) → items_len (items_view vs) ≡ length vs
items_len_items_view [] = refl
items_len_items_view (v ∷ vs) = ap suc (items_len_items_view vs)

pub tasks_count : (p : Path) (vs : List Value) → refuse_beyond_limit_of p (nat_le (items_len (items_view vs)) most_tasks) ≡ refuse_beyond_limit_of p (nat_le (length vs) most_tasks)
tasks_count p vs = ap (λ n. refuse_beyond_limit_of p (nat_le n most_tasks)) (items_len_items_view vs)

-- ---- the walk

-- the tasks before, as the call reads them, and what is read from n on
pub step : (before read : List TaskDraft) (vs : List Value) (n : ℕ) (v : Value) → read ≡ before → n < length vs → v ≡ get_or vs n v
    → tasks_from before n (items_view (drop n vs)) ≡ (task_in read n (view v) >>= λ t. tasks_from (before ++ t ∷ []) (n + 1) (items_view (drop (n + 1) vs)))
unfolding tasks_from
step before read vs n v same h is =
    ap (λ us. tasks_from before n (items_view us)) (rest_from vs n v h is) ∙ ap (λ ts. task_in ts n (view v) >>= λ t. tasks_from (before ++ t ∷ []) (n + 1) (items_view (drop (n + 1) vs))) (sym same)

pub all_read : (before : List TaskDraft) (n : ℕ) → tasks_from before n (items_view []) ≡ Ok before
unfolding tasks_from
all_read before n = refl

-- ---- what the tasks keep

any_id : (id : List ℕ) (ts : List TaskDraft) → list_any (bytes_eq id) (map (λ t. t.id) ts) ≡ list_any (λ t. bytes_eq id t.id) ts
any_id id [] = refl
any_id id (t ∷ ts) = ap (λ b. bytes_eq id t.id || b) (any_id id ts)

-- the tasks so far
pub record KeepsTasks (n : ℕ) (tasks : List TaskDraft) : Type 0 where
  pub len : length tasks ≡ n
  pub few_edges : number_of_edges tasks ≤ most_edges
  pub distinct_ids : HaveDistinctIds tasks
  pub each : All IsTask tasks

pub one_more : (n : ℕ) (ts : List TaskDraft) (t : TaskDraft) → KeepsTasks n ts → MayFollow ts t → KeepsTasks (n + 1) (ts ++ t ∷ [])
one_more n ts t kept new = record {
  len = (let len = kept.len in omega (arith, len, length-append ts (t ∷ [])));
  few_edges = (let few = new.few in omega (arith, few, sum_by-append (λ (u : TaskDraft). length u.upstreams) ts (t ∷ [])));
  distinct_ids = subst (λ (ids : List (List ℕ)). AllPairs (λ a b. a ≢ b) ids) (sym (map-append (λ (u : TaskDraft). u.id) ts (t ∷ []))) (all_pairs_push (λ a b. a ≢ b) (map (λ (u : TaskDraft). u.id) ts) t.id kept.distinct_ids other);
  each = All-push IsTask ts t kept.each new.is_task;
}
  where
    other : (k : ℕ) (d : List ℕ) → k < length (map (λ (u : TaskDraft). u.id) ts) → get_or (map (λ (u : TaskDraft). u.id) ts) k d ≢ t.id
    other k d h e = true≢false (sym (list_any_at (bytes_eq t.id) (map (λ (u : TaskDraft). u.id) ts) k d h ((bytes_decides _ _).1 (sym e))) ∙ any_id t.id ts ∙ new.fresh)
