-- Bytes that begin with a head, or are the beginning of it.
use Rattle.std.proofs.Common.{◌≡◌, ℕ, List, ◌++◌, refl}
use Rattle.std.specs.FinMap as map
use Rattle.bf_value.specs.Names.{name_cmp}
use Rattle.bf_try.specs.declared.ledger.Entry.{Entry}
use Rattle.bf_journal.specs.Found.{IsCutHead}

-- of the beginning of a head nothing is kept
pub begins : (head bytes rest : List ℕ) → head ≡ bytes ++ rest → IsCutHead head bytes 0 (map.get (map.empty {X = Entry} {R = name_cmp}))
begins head bytes rest is = record { rest = rest; are = is; nothing_whole = refl; nothing_kept = λ n. map.get-empty name_cmp n }
