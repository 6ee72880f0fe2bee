use Rattle.std.proofs.Common.{◌+◌, ◌∷◌, ◌++◌, [], drop, sym, ap, ◌∙◌}
use Rattle.std.proofs.lemmas.List.{drop_all}
use Rattle.std.proofs.lemmas.Result.{err_from_is_err_and}
use Rattle.serde_json.specs.View.{items_view}
use Rattle.bf_read.specs.Gives.{◌>>=◌}
use Rattle.bf_read.specs.Commands.{word_in, words_of}
use Rattle.bf_read.proofs.FieldLemmas.{after, item_read, all_items_read, fails_on}
use Rattle.bf_read.proofs.command.words_in.Goals as goal

pub returns-in_err-word_at : goal.returns-in_err-word_at
returns-in_err-word_at c =
    let next = item_read (word_in c.args.is_expanded c.args.path) _ c.args.items.now _ _ c.loop-item-test.true c.item-item.is in
    let p = err_from_is_err_and c.from_residual.result c.from_residual.ensures.1 in
    rw (p.1, p.2) (fails_on _ _ _ _ (sym c.loop-item.invariant ∙ next) c.in_err-word_at.ensures)

pub loop-item-preserved : goal.loop-item-preserved
loop-item-preserved c =
    let so_far = c.loop-item.words.items in
    let rest = words_of c.args.is_expanded c.args.path (items_view (drop (c.loop-item.item-index + 1) c.args.items.now)) in
    let next = item_read (word_in c.args.is_expanded c.args.path) so_far c.args.items.now _ _ c.loop-item-test.true c.item-item.is in
    ap (λ ws. after ws rest) c.in_ok-push.ensures.items ∙ sym (next ∙ ap (λ r. r >>= λ w. after (so_far ++ w ∷ []) rest) c.in_ok-word_at.ensures) ∙ c.loop-item.invariant

pub returns : goal.returns
returns c =
    let so_far = c.loop-item.words.items in
    sym c.loop-item.invariant ∙ ap (λ vs. after so_far (words_of c.args.is_expanded c.args.path (items_view vs))) (drop_all _ _ c.loop-item-test.false) ∙ all_items_read (word_in c.args.is_expanded c.args.path) so_far
