use Rattle.std.proofs.Common.{refl, sym, ◌∙◌, subst, true≢false}
use Rattle.std.specs.Map.Iter.{deref_pair}
use Rattle.std.proofs.lemmas.Map.Iter.{iter_turn, rest_more, rest_all}
use Rattle.bf_try.specs.inner.Tries.{Agree}
use Rattle.bf_try.proofs.Maps.{all_seen, all_where_rest, one_differs}
use Rattle.bf_try.proofs.ledger.all_agree.Goals as goal

pub returns-then-not-agrees-clause-all : goal.returns-then-not-agrees-clause-all
returns-then-not-agrees-clause-all c =
    let turn = iter_turn deref_pair c.args.entries.now.entries c.loop-name.yielded c.into_iter-name-iterator.result c.loop-name.name-iterator c.next.new.self c.next.result
    (c.into_iter-name-iterator.ensures.into_iter_gives ∙ c.iter-name-items.ensures.rest) c.loop-name.yielded_by (c.in-Some.name, c.in-Some.entry) c.in-Some.is c.next.ensures.steps in
    one_differs c.args.other.now c.args.entries.now.entries _ (c.in-Some.name.now, c.in-Some.entry.now) turn.0 turn.1
    (λ agree. true≢false (sym (c.if-not-agrees.ensures.1 (subst (Agree c.in-Some.entry.now) (sym c.get.ensures) agree))))

pub loop-name-preserved : goal.loop-name-preserved
loop-name-preserved c = (
  tt,
  tt,
  all_where_rest c.args.other.now c.loop-name.name-iterator c.next.new.self c.args.entries.now.entries (c.in-Some.name.now, c.in-Some.entry.now)
      (rest_more deref_pair _ _ c.next.result (c.in-Some.name, c.in-Some.entry) c.in-Some.is c.next.ensures.steps) (subst (Agree c.in-Some.entry.now) c.get.ensures (c.if-not-agrees.ensures.0 refl)) c.loop-name.invariant.2,
)

pub returns-clause-all : goal.returns-clause-all
returns-clause-all c = all_seen c.args.other.now c.loop-name.name-iterator c.args.entries.now.entries (rest_all deref_pair _ _ c.next.result c.in-None.is c.next.ensures.steps) c.loop-name.invariant.2
