use Rattle.std.proofs.Common.{◌≡◌, ◌+◌, ◌∷◌, ◌++◌, [], List, ℕ, Bool, Bor, get_or, map, refl, sym, ap, ◌∙◌}
use Rattle.std.proofs.lemmas.List.{drop_all}
use Rattle.std.specs.HashSet.{contains_by}
use Rattle.std.specs.List.{list_any}
use Rattle.std.specs.Str.{bytes_eq}
use Rattle.bf_read.proofs.DistinctLemmas.{with_new, texts_from, none_found, all_found, one_new, one_old, seen_new, seen_old, added_new, not_added_old}
use Rattle.bf_read.proofs.texts.distinct_texts.Goals as goal
use Rattle.bf_read.proofs.texts.distinct_texts.Goals.{then-branch+in_ok-copy_of+in_ok-push, else-branch}

pub loop-text-init : goal.loop-text-init
loop-text-init c = record {
  kept = ap (λ found. with_new found (texts_from 0 c.args.texts.now)) c.new-found.ensures.items ∙ none_found (texts_from 0 c.args.texts.now);
  seen = λ q. ap (list_any (λ (k : Bor (List ℕ)). bytes_eq q.now k.now)) c.new-seen.ensures.empty ∙ ap (list_any (bytes_eq q.now)) (sym c.new-found.ensures.items);
}

pub loop-text-preserved : goal.loop-text-preserved
loop-text-preserved c =
    let all = c.args.texts.now in
    let i = c.loop-text.text-index in
    let found = c.loop-text.found.items in
    let x : Bor (List ℕ) = get_or all i (record { ref_ptr = (0, 0); now = [] }) in
    let before : Bor (List ℕ) → Bool = λ q. contains_by (λ (k : Bor (List ℕ)). bytes_eq q.now k.now) c.loop-text.seen in
    let after : Bor (List ℕ) → Bool = λ q. contains_by (λ (k : Bor (List ℕ)). bytes_eq q.now k.now) c.insert.new.self in
    let updates = c.in_ok-insert.ensures.updates.0 in
    let seen = c.loop-text.invariant.seen in
    elim c.if-branch.branch [
      | then-branch+in_ok-copy_of+in_ok-push w ↦
          let new = added_new _ _ _ c.in_ok-insert.ensures.added (seen x) w.if-branch.true in
          let items : c.if-branch.found.items ≡ found ++ x.now ∷ [] = ap (λ v. v.items) w.found-is ∙ w.in_ok-push.ensures.items ∙ ap (λ t. found ++ t ∷ []) w.in_ok-copy_of.ensures in
          record {
            kept = ap (λ ts. with_new ts (texts_from (i + 1) all)) items ∙ one_new all i _ found c.loop-text-test.true new ∙ c.loop-text.invariant.kept;
            seen = λ q. seen_new found x before after updates seen q ∙ ap (list_any (bytes_eq q.now)) (sym items);
          }
      | else-branch w ↦
          let old = not_added_old _ _ _ c.in_ok-insert.ensures.added refl w.if-branch.false in
          let items : c.if-branch.found.items ≡ found = ap (λ v. v.items) w.found-is in
          record {
            kept = ap (λ ts. with_new ts (texts_from (i + 1) all)) items ∙ one_old all i _ found c.loop-text-test.true (sym (seen x) ∙ old) ∙ c.loop-text.invariant.kept;
            seen = λ q. seen_old found x before after updates seen old q ∙ ap (list_any (bytes_eq q.now)) (sym items);
          }
    ]

pub returns : goal.returns
returns c =
    let found = c.loop-text.found.items in
    sym (all_found found) ∙ ap (λ ss. with_new found (map (λ (s : Bor (List ℕ)). s.now) ss)) (sym (drop_all _ _ c.loop-text-test.false)) ∙ c.loop-text.invariant.kept
