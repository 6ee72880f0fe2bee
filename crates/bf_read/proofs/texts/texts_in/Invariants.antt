use Rattle.std.proofs.Common.{◌≡◌, drop, map}
use Rattle.serde_json.specs.View.{items_view}
use Rattle.bf_read.specs.Fields.{texts_of}
use Rattle.bf_read.proofs.FieldLemmas.{after}
use Rattle.bf_read.proofs.texts.texts_in.Given as goal

-- the texts so far, and then what is read of the rest, are what is read of all
abbrev pub invariant-loop-item : goal.invariant-loop-item
invariant-loop-item l = after (map (λ s. s.now) l.texts.items) (texts_of l.path (items_view (drop l.item-index l.items))) ≡ texts_of l.path (items_view l.items)
