use Rattle.std.proofs.Common.{rules, tests, map, ap, ◌∙◌, sym, subst, List, ℕ, Some, eqb}
use Rattle.std.proofs.lemmas.List.{map-append}
use Rattle.std.proofs.lemmas.Iterator.Consumers.{YieldsList-end, YieldsList-turn, YieldsList-at}
use Rattle.std.proofs.lemmas.Iterator.Splits.{YieldsList-from_slice_split}
use Rattle.bf_cron.specs.Cron.{items_of, item_of}
use Rattle.bf_cron.specs.inner.Cron.{IsField}
use Rattle.bf_cron.proofs.Items.{items_of_none, IsField-push, IsField-none}
use Rattle.bf_cron.proofs.reading.read_field.Goals as goal

pub returns-in_err-read_item : goal.returns-in_err-read_item
returns-in_err-read_item c =
    let t = YieldsList-turn (YieldsList-at c.into_iter-part-iterator.ensures.into_iter_gives (YieldsList-from_slice_split _ (λ b. eqb b 44) c.args.text.now c.split-part-items.ensures.rest c.split-part-items.ensures.done c.split-part-items.ensures.closure (λ x b q k. search (rules, tests)))) c.loop-part.yielded _ c.loop-part.yielded_by _ _ c.in-Some.part c.in-Some.is c.next.ensures.steps in
    rw c.from_residual.ensures
    (IsField-none _ (items_of_none c.args.field _ _ c.in-Some.part.now t.0 (ap (item_of c.args.field) (sym t.1) ∙ sym c.in_err-read_item.ensures.value)))

pub loop-part-preserved : goal.loop-part-preserved
loop-part-preserved c =
    rw map-append (IsField-push c.args.field (map (λ s. s.now) c.loop-part.yielded) c.in-Some.part.now c.in_ok-read_item.field-0 c.loop-part.word c.with_numbers-word.result (sym c.in_ok-read_item.ensures.value) c.loop-part.invariant c.with_numbers-word.ensures)

pub returns : goal.returns
returns c =
    let t = YieldsList-end (YieldsList-at c.into_iter-part-iterator.ensures.into_iter_gives (YieldsList-from_slice_split _ (λ b. eqb b 44) c.args.text.now c.split-part-items.ensures.rest c.split-part-items.ensures.done c.split-part-items.ensures.closure (λ x b q k. search (rules, tests)))) c.loop-part.yielded _ c.loop-part.yielded_by _ _ c.in-None.is c.next.ensures.steps in
    let P : List (List ℕ) → Type 0 = λ parts. IsField (items_of c.args.field parts) (Some c.loop-part.word) in
    subst P t.0 c.loop-part.invariant
