use Rattle.std.proofs.Common.{◌≡◌, drop}
use Rattle.serde_json.specs.View.{items_view}
use Rattle.bf_read.specs.Commands.{words_of}
use Rattle.bf_read.proofs.FieldLemmas.{after}
use Rattle.bf_read.proofs.command.words_in.Given as goal

-- the words so far, and then what is read of the rest, are what is read of all
abbrev pub invariant-loop-item : goal.invariant-loop-item
invariant-loop-item l = after l.words.items (words_of l.is_expanded l.path (items_view (drop l.item-index l.items))) ≡ words_of l.is_expanded l.path (items_view l.items)
