-- Instances counted by state, in words.
use Rattle.std.specs.Prelude.{ℕ, ◌==◌, if◌then◌else◌, List, [], ◌∷◌, ◌++◌, codes}
use Rattle.std.specs.List.{join_by}
use Rattle.bf_core.specs.Terms.{Counts}
use Rattle.bf_wording.specs.Numbers.{number_text}

-- a state, where some instance has it
abbrev pub part : ℕ → List ℕ → List (List ℕ)
part n state = if n == 0 then [] else (number_text n ++ 32 ∷ state) ∷ []

-- the states that are there, as `2 success, 1 failed`
abbrev pub counts_text_of : Counts → List ℕ
counts_text_of counts = join_by (λ text. text) (codes ", ")
    ((((part counts.success (codes "success") ++ part counts.failed (codes "failed"))
    ++ part counts.upstream_failed (codes "upstream_failed"))
    ++ part counts.skipped (codes "skipped")) ++ part counts.blocked (codes "no_status"))
