use Rattle.std.proofs.Common.{map, Some}
use Rattle.bf_cron.specs.Cron.{items_of}
use Rattle.bf_cron.specs.inner.Cron.{IsField}
use Rattle.bf_cron.proofs.reading.read_field.Given as goal

abbrev pub invariant-loop-part : goal.invariant-loop-part
invariant-loop-part l = IsField (items_of l.field (map (λ s. s.now) l.yielded)) (Some l.word)
