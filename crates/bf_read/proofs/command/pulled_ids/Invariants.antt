use Rattle.std.proofs.Common.{◌≡◌, map}
use Rattle.std.specs.List.{filter_map}
use Rattle.bf_read.specs.Drafts.{pulled_by}
use Rattle.bf_read.proofs.CommandLemmas.{with_rest}
use Rattle.bf_read.proofs.command.pulled_ids.Given as goal

abbrev pub invariant-loop-word : goal.invariant-loop-word
invariant-loop-word l = with_rest (map (λ s. s.now) l.ids.items) l.words l.word-index ≡ filter_map pulled_by l.words
