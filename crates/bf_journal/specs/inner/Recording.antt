-- Why a recorder lets no try begin.
use Rattle.std.specs.Prelude.{ℕ, nat_le, Bool, false, if◌then◌else◌, Option, Some, None}
use Rattle.bf_journal.specs.declared.stop.Stop.{Stop}
use Rattle.bf_journal.specs.declared.stop.Stop.TheVariants.{WriteFailed, OutOfMemory, EnoughFailed}
use Rattle.bf_journal.specs.Recording.{Recorded}

abbrev pub is_enough : Option ℕ → ℕ → Bool
is_enough None failed_tries = false
is_enough (Some most) failed_tries = nat_le most failed_tries

-- why no further try is begun, if none is
abbrev pub stop_reason_of : Recorded → Option Stop
stop_reason_of r =
    if r.write_failed then Some WriteFailed
    else (if r.memory_failed then Some OutOfMemory
    else (if is_enough r.most_failed r.failed_tries then Some EnoughFailed else None))
