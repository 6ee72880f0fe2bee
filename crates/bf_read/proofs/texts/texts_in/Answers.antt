use Rattle.std.proofs.Common.{◌≡◌, ◌+◌, ◌∷◌, ◌++◌, [], List, ℕ, Bor, Result, drop, map, sym, ap, ◌∙◌}
use Rattle.std.proofs.lemmas.List.{drop_all, map-append}
use Rattle.std.proofs.lemmas.Result.{err_from_is_err_and}
use Rattle.serde_json.specs.Data.{Data}
use Rattle.serde_json.specs.View.{items_view}
use Rattle.bf_read.specs.declared.fault.ReadFault.{ReadFault}
use Rattle.bf_read.specs.declared.path.Path.{Path}
use Rattle.bf_read.specs.Gives.{◌>>=◌}
use Rattle.bf_read.specs.Fields.{text_of, texts_of, field_with_value_in}
use Rattle.bf_read.proofs.FieldLemmas.{after, item_read, all_items_read, fails_on}
use Rattle.bf_read.proofs.texts.texts_in.Goals as goal

-- the text of an item
abbrev text_in : Path → Data → Result (List ℕ) ReadFault
text_in p d = text_of (field_with_value_in p d)

pub returns-in_err-text_at : goal.returns-in_err-text_at
returns-in_err-text_at c =
    let next = item_read (text_in c.args.path) _ c.args.items.now _ _ c.loop-item-test.true c.item-item.is in
    let p = err_from_is_err_and c.from_residual.result c.from_residual.ensures.1 in
    rw (p.1, p.2) (fails_on _ _ _ _ (sym c.loop-item.invariant ∙ next) (rw c.field_with_value.ensures at c.in_err-text_at.ensures))

pub loop-item-preserved : goal.loop-item-preserved
loop-item-preserved c =
    let i = c.loop-item.item-index in
    let rest = texts_of c.args.path (items_view (drop (i + 1) c.args.items.now)) in
    let so_far = map (λ (s : Bor (List ℕ)). s.now) c.loop-item.texts.items in
    let next = item_read (text_in c.args.path) so_far c.args.items.now _ _ c.loop-item-test.true c.item-item.is in
    let more : map (λ (s : Bor (List ℕ)). s.now) c.push.new.self.items ≡ so_far ++ c.in_ok-text_at.field-0.now ∷ [] = ap (map (λ (s : Bor (List ℕ)). s.now)) c.in_ok-push.ensures.items ∙ map-append (λ (s : Bor (List ℕ)). s.now) c.loop-item.texts.items _ in
    let text = ap text_of (sym c.field_with_value.ensures) ∙ c.in_ok-text_at.ensures in
    ap (λ ss. after ss rest) more ∙ sym (next ∙ ap (λ r. r >>= λ s. after (so_far ++ s ∷ []) rest) text) ∙ c.loop-item.invariant

pub returns : goal.returns
returns c =
    let so_far = map (λ (s : Bor (List ℕ)). s.now) c.loop-item.texts.items in
    sym c.loop-item.invariant ∙ ap (λ vs. after so_far (texts_of c.args.path (items_view vs))) (drop_all _ _ c.loop-item-test.false) ∙ all_items_read (text_in c.args.path) so_far
