-- The ids of graphs, tasks and pools.
use Rattle.std.specs.Prelude.{ℕ, ◌&&◌, ◌||◌, ◌==◌, List, length, Bool, nat_le}
use Rattle.std.specs.List.{list_all}

-- an ASCII letter or digit, or one of - . _
abbrev pub is_id_byte_in : ℕ → Bool
is_id_byte_in b =
    (nat_le 97 b && nat_le b 122) || (nat_le 65 b && nat_le b 90) || (nat_le 48 b && nat_le b 57)
    || b == 45 || b == 46 || b == 95

-- 1 to 250 of these
abbrev pub is_id_in : List ℕ → Bool
is_id_in text = nat_le 1 (length text) && nat_le (length text) 250 && list_all is_id_byte_in text
