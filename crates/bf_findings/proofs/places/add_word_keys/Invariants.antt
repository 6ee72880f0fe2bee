use Rattle.std.proofs.Common.{◌≡◌, ◌++◌, drop, filter_map}
use Rattle.serde_json.specs.View.{view}
use Rattle.bf_findings.specs.Places.{word_keys}
use Rattle.bf_findings.specs.Listed.{word_key, word_keys_of}
use Rattle.bf_findings.proofs.places.add_word_keys.Given as goal

abbrev pub invariant-loop-key : goal.invariant-loop-key
invariant-loop-key l = l.places.items ++ filter_map (word_key l.n l.i (view l.word)) (drop l.key-index word_keys) ≡ l.fn.places.items ++ word_keys_of l.n l.i (view l.word)
