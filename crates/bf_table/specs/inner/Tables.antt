-- What reading a table, or a part of it, comes to.
use Rattle.std.specs.Prelude.{◌≡◌, ℕ, Option, Some, None, Result, Ok, Err}
use Rattle.bf_table.specs.declared.table.TableFault.{TableFault}
use Rattle.bf_table.specs.declared.table.TableFault.TheVariants.{BadTable, OutOfMemory}

-- ---- what is read

-- a part of the table, or that what stands at this number is bad, unless memory ran out
abbrev pub Reads : {A B : Type 0} → Option ℕ → (A → B) → Result A TableFault → Option B → Type 0
Reads number view (Ok x) part = part ≡ Some (view x)
Reads number view (Err (BadTable bad)) part = (bad ≡ number) × (part ≡ None)
Reads number view (Err OutOfMemory) part = Unit {0}

-- what the definition gives, unless memory ran out
abbrev pub Gives : {A B : Type 0} → (A → B) → Result A TableFault → Result B TableFault → Type 0
Gives view (Ok x) given = given ≡ Ok (view x)
Gives view (Err (BadTable bad)) given = given ≡ Err (BadTable bad)
Gives view (Err OutOfMemory) given = Unit {0}
