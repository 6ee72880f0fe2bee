-- What is said of the environment of a try's program.
use Rattle.std.specs.Prelude.{ℕ, List, fold, if◌then◌else◌, Option, Some}
use Rattle.std.specs.Str.{bytes_eq}
use Rattle.bf_process.specs.Environment.{Pair}

-- what is said of a name by pairs that are taken in order, where this was said before: nothing, or its value, or that it is removed
unfoldable pub said_after : List ℕ → Option (Option (List ℕ)) → List Pair
    → Option (Option (List ℕ))
said_after name before pairs =
    fold (λ said pair. if bytes_eq pair.0 name then Some pair.1 else said) before pairs
