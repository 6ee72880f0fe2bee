use Rattle.std.proofs.Common.{◌≡◌, ◌++◌, drop, string_bytes}
use Rattle.std.specs.List.{flat_map, join_by}
use Rattle.bf_wording.proofs.lists.push_separated.Given as goal

abbrev pub invariant-loop-part : goal.invariant-loop-part
invariant-loop-part l =
    string_bytes l.text ++ flat_map (λ part. l.separator ++ part) (drop l.part-index l.rest) ≡ string_bytes l.fn.text ++ join_by (λ part. part) l.separator l.fn.parts
