use Rattle.std.proofs.Common.{◌+◌, ◌∷◌, ◌++◌, [], List, drop, sym, ap, ◌∙◌, subst}
use Rattle.std.proofs.lemmas.List.{drop_all}
use Rattle.std.proofs.lemmas.Result.{err_from_is_err_and}
use Rattle.serde_json.specs.View.{items_view}
use Rattle.bf_read.specs.declared.draft.TaskDraft.{TaskDraft}
use Rattle.bf_read.specs.Gives.{◌>>=◌}
use Rattle.bf_read.specs.inner.Drafts.{MayFollow}
use Rattle.bf_read.specs.Reading.{tasks_from}
use Rattle.bf_read.proofs.FieldLemmas.{fails_on}
use Rattle.bf_read.proofs.TaskLemmas.{KeepsTasks, step, all_read, one_more}
use Rattle.bf_read.proofs.tasks.tasks_of.Goals as goal

pub returns-in_err-task-clause-exact : goal.returns-in_err-task-clause-exact
returns-in_err-task-clause-exact c =
    let next = step _ _ c.args.items.now _ _ c.as_slice.ensures.value c.loop-n-test.true c.index-items-n.is in
    let p = err_from_is_err_and c.from_residual.result c.from_residual.ensures.1 in
    rw (p.1, p.2) (fails_on _ _ _ _ (sym c.loop-n.invariant.read ∙ next) c.in_err-task.ensures.exact)

pub loop-n-preserved : goal.loop-n-preserved
loop-n-preserved c =
    let n = c.loop-n.n in
    let before = c.loop-n.tasks.items in
    let rest = items_view (drop (n + 1) c.args.items.now) in
    let next = step _ _ c.args.items.now _ _ c.as_slice.ensures.value c.loop-n-test.true c.index-items-n.is in
    let items = c.in_ok-push.ensures.items in
    let P : List TaskDraft → Type 0 = λ ts. MayFollow ts c.in_ok-task.task in
    let Q : List TaskDraft → Type 0 = λ ts. KeepsTasks (n + 1) ts in
    record {
      read = ap (λ ts. tasks_from ts (n + 1) rest) items ∙ sym (next ∙ ap (λ r. r >>= λ t. tasks_from (before ++ t ∷ []) (n + 1) rest) c.in_ok-task.ensures.exact) ∙ c.loop-n.invariant.read;
      kept = subst Q (sym items) (one_more n before _ c.loop-n.invariant.kept (subst P c.as_slice.ensures.value c.in_ok-task.ensures.follows));
    }

pub returns-clause-exact : goal.returns-clause-exact
returns-clause-exact c =
    let n = c.loop-n.n in
    let before = c.loop-n.tasks.items in
    sym c.loop-n.invariant.read ∙ ap (λ vs. tasks_from before n (items_view vs)) (drop_all _ _ c.loop-n-test.false) ∙ all_read before n
