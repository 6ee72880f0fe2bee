use Rattle.std.proofs.Common.{ℕ, ◌<◌, ◌≡◌, List, Contains, length, get_or, true, false, true≢false, refl, sym, ◌∙◌, subst, arith, rules}
use Rattle.std.proofs.lemmas.List.{get_or_default}
use Rattle.std.proofs.lemmas.Option.{slice_get_read}
use Rattle.bf_graph.specs.Edges.{lists}
use Rattle.bf_graph.specs.Reach.{Reaches}
use Rattle.bf_graph.proofs.RankLemmas.{upstreams_read}
use Rattle.bf_check.proofs.ListLemmas.{each_so_far, item_contained}
use Rattle.bf_check.proofs.pulls.are_settled.Goals as goal

pub returns-then-are_among-clause-all : goal.returns-then-are_among-clause-all
returns-then-are_among-clause-all c = λ _ u one.
    let read = upstreams_read _ _ _ _ c.requires.task c.index-settling-task.is c.as_slice.ensures.value in
    (0, (u, subst (λ (us : List ℕ). Contains us u) read (c.are_among.ensures (search rules) u one), refl))

pub index-requires : goal.index-requires
index-requires c =
    let low = c.requires.pulls _ (item_contained c.args.pulls.now c.loop-pull.pull-index 0 c.loop-pull-test.true) in
    omega (arith, low, c.in_ok-settled.ensures.len)

pub returns-then-not-index-clause-not_all : goal.returns-then-not-index-clause-not_all
returns-then-not-index-clause-not_all c = λ _.
    let u = get_or c.args.pulls.now c.loop-pull.pull-index 0 in
    let one = item_contained c.args.pulls.now c.loop-pull.pull-index 0 c.loop-pull-test.true in
    let low = c.requires.pulls u one in
    let inside : u < length c.in_ok-settled.settled.items = omega (arith, low, c.in_ok-settled.ensures.len) in
    let unmarked : get_or c.in_ok-settled.settled.items u false ≡ false = get_or_default c.in_ok-settled.settled.items u false c.index.result.now inside ∙ sym c.index.ensures ∙ c.if-not-index.true in
    (u, one, λ path. true≢false (sym ((c.in_ok-settled.ensures.right u low).1 path) ∙ unmarked))

pub loop-pull-preserved : goal.loop-pull-preserved
loop-pull-preserved c =
    let pulls = c.args.pulls.now in
    let u = get_or pulls c.loop-pull.pull-index 0 in
    let low = c.requires.pulls u (item_contained pulls c.loop-pull.pull-index 0 c.loop-pull-test.true) in
    let inside : u < length c.in_ok-settled.settled.items = omega (arith, low, c.in_ok-settled.ensures.len) in
    let marked : get_or c.in_ok-settled.settled.items u false ≡ true = get_or_default c.in_ok-settled.settled.items u false c.index.result.now inside ∙ sym c.index.ensures ∙ c.if-not-index.false in
    each_so_far (λ k v. Reaches (lists c.args.settling.now) v c.args.task) pulls c.loop-pull.pull-index u c.loop-pull-test.true (get_or_default pulls c.loop-pull.pull-index 0 u c.loop-pull-test.true) c.loop-pull.invariant ((c.in_ok-settled.ensures.right u low).0 marked)

pub returns-clause-all : goal.returns-clause-all
returns-clause-all c = λ yes u (k, within, is). c.loop-pull.invariant k u (omega (arith, within, c.loop-pull-test.false)) (slice_get_read c.args.pulls.now _ k u refl within (sym is))
