-- Entries, as they are put together.
use Rattle.std.specs.Prelude.{ℕ, ℤ, pos, List, codes}
use Rattle.serde_json.specs.Data.{string, Members, member}
use Rattle.bf_answers.specs.TableText.{whole}

-- what an entry names, before these members
abbrev pub named_members : List ℕ → List ℕ → ℤ → ℕ → Members → Members
named_members run id index attempt members =
    member (codes "task") (string id)
    (member (codes "index") (whole index)
    (member (codes "run") (string run)
    (member (codes "try") (whole (pos attempt)) members)))
