use Rattle.bf_try.proofs.Maps.{AllAgree}
use Rattle.bf_try.proofs.ledger.all_agree.Given as goal

-- all agree where the rest do
abbrev pub invariant-loop-name : goal.invariant-loop-name
invariant-loop-name l =
    (goal.iterator-loop-name).can_next l.name-iterator ×
    (goal.iterator-loop-name).is_finite l.name-iterator ×
    (AllAgree l.other l.name-iterator → AllAgree l.other l.entries.entries)
