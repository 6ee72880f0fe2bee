use Rattle.std.proofs.Common.{◌∷◌, ◌++◌, [], All, List, ℕ, String, Global, sym, ap, ◌∙◌, subst}
use Rattle.std.proofs.lemmas.List.Elements.{All-push}
use Rattle.std.proofs.lemmas.Result.{err_from_is_err_and}
use Rattle.serde_json.specs.View.{view, members_view}
use Rattle.serde_json.specs.declared.value.Value.{Value}
use Rattle.bf_read.specs.declared.draft.PoolDraft.{PoolDraft}
use Rattle.bf_read.specs.Drafts.{IsPool}
use Rattle.bf_read.specs.Gives.{◌>>=◌, Fails}
use Rattle.bf_read.specs.Fields.{each_member, pool_in}
use Rattle.bf_read.proofs.FieldLemmas.{after, member_read, all_members_read, fails_on}
use Rattle.bf_read.proofs.PoolLemmas.{one_named, stand_by_name}
use Rattle.bf_read.proofs.pools.pools_in.Goals as goal

pub returns-in_err-pool_at-clause-exact : goal.returns-in_err-pool_at-clause-exact
returns-in_err-pool_at-clause-exact c =
    let pool = pool_in c.args.path in
    let so_far = c.loop-name.pools.items in
    let entry : String Global × Value = (c.in-Some.name.now, c.in-Some.value.now) in
    let left = c.next.new.self in
    let next = ap (λ (es : List (String Global × Value)). after so_far (each_member pool (members_view es))) c.in-Some.ensures.steps ∙ member_read pool so_far entry left in
    let p = err_from_is_err_and c.from_residual.result c.from_residual.ensures.1 in
    let P : List ℕ → Type 0 = λ s. Fails c.in_err-pool_at.field-0.0 (pool s (view entry.1)) in
    rw (p.1, p.2) (fails_on _ _ _ _ (sym c.loop-name.invariant.read ∙ next) (subst P c.as_str.ensures.value c.in_err-pool_at.ensures.exact))

pub loop-name-preserved : goal.loop-name-preserved
loop-name-preserved c =
    let pool = pool_in c.args.path in
    let so_far = c.loop-name.pools.items in
    let entry : String Global × Value = (c.in-Some.name.now, c.in-Some.value.now) in
    let left = c.next.new.self in
    let next = ap (λ (es : List (String Global × Value)). after so_far (each_member pool (members_view es))) c.in-Some.ensures.steps ∙ member_read pool so_far entry left in
    let items = c.in_ok-push.ensures.items in
    let read = ap (λ s. pool s (view entry.1)) (sym c.as_str.ensures.value) ∙ c.in_ok-pool_at.ensures.exact in
    let Q : List PoolDraft → Type 0 = λ ps. All IsPool ps in
    record {
      read = ap (λ ps. after ps (each_member pool (members_view left))) items ∙ sym (next ∙ ap (λ r. r >>= λ x. after (so_far ++ x ∷ []) (each_member pool (members_view left))) read) ∙ c.loop-name.invariant.read;
      pools = subst Q (sym items) (All-push IsPool so_far _ c.loop-name.invariant.pools c.in_ok-pool_at.ensures.pool);
      names = one_named so_far _ _ _ _ entry left items (c.in_ok-pool_at.ensures.named ∙ c.as_str.ensures.value) c.in-Some.ensures.steps c.loop-name.invariant.names;
    }

pub returns-clause-exact : goal.returns-clause-exact
returns-clause-exact c =
    let pool = pool_in c.args.path in
    let so_far = c.loop-name.pools.items in
    sym c.loop-name.invariant.read ∙ ap (λ (es : List (String Global × Value)). after so_far (each_member pool (members_view es))) c.in-None.ensures.steps.0 ∙ all_members_read pool so_far

pub returns-clause-by_name : goal.returns-clause-by_name
returns-clause-by_name c = stand_by_name c.loop-name.pools.items _ _ c.in-None.ensures.steps.0 c.loop-name.invariant.names c.iter-name-items.ensures.ordered
