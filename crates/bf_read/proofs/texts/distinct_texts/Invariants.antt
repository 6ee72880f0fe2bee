use Rattle.std.proofs.Common.{◌≡◌, List, ℕ, Bor, drop, map}
use Rattle.std.specs.HashSet.{contains_by}
use Rattle.std.specs.List.{list_any}
use Rattle.std.specs.Str.{bytes_eq}
use Rattle.bf_read.specs.Drafts.{distinct_texts_of}
use Rattle.bf_read.proofs.DistinctLemmas.{with_new}
use Rattle.bf_read.proofs.texts.distinct_texts.Given as goal

abbrev pub invariant-loop-text : goal.invariant-loop-text
invariant-loop-text l = record {
  kept : with_new l.found.items (map (λ s. s.now) (drop l.text-index l.texts)) ≡ distinct_texts_of (map (λ s. s.now) l.texts);
  seen : (q : Bor (List ℕ)) → contains_by (λ k. bytes_eq q.now k.now) l.seen ≡ list_any (bytes_eq q.now) l.found.items;
}
