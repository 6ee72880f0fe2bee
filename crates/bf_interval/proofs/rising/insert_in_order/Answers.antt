use Rattle.std.proofs.Common.{subst, List, ℕ, Err}
use Rattle.std.specs.List.Sorted.{IsBinarySearchResult}
use Rattle.std.specs.Ordering.{nat_cmp}
use Rattle.bf_interval.proofs.Placing.{put_at}
use Rattle.bf_interval.proofs.rising.insert_in_order.Goals as goal

pub returns-in_ok-insert-in-Err-clause-rising : goal.returns-in_ok-insert-in-Err-clause-rising
returns-in_ok-insert-in-Err-clause-rising c =
    let P : List ℕ → Type 0 = λ xs. IsBinarySearchResult (λ y. nat_cmp y c.args.number) xs (Err c.in-Err.place) in
    let missing = subst P c.deref.ensures.value c.in-Err.ensures.position in
    rw c.in_ok-insert-in-Err.ensures.items ((put_at c.args.numbers.now.items c.args.number c.in-Err.place c.requires missing).0)

pub returns-in_ok-insert-in-Err-clause-ok : goal.returns-in_ok-insert-in-Err-clause-ok
returns-in_ok-insert-in-Err-clause-ok c =
    let P : List ℕ → Type 0 = λ xs. IsBinarySearchResult (λ y. nat_cmp y c.args.number) xs (Err c.in-Err.place) in
    let missing = subst P c.deref.ensures.value c.in-Err.ensures.position in
    rw c.in_ok-insert-in-Err.ensures.items ((put_at c.args.numbers.now.items c.args.number c.in-Err.place c.requires missing).1)
