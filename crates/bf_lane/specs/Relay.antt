-- What was put in is what was taken out and then what the queue holds. One pass at most may put, and it has the list of what was put. The same for taking.
use Rattle.std.specs.Prelude.{◌≡◌, ℕ, Bool, true, List, ◌++◌}
use mathlib.Core.Option.{some}
use lib.ListN.{get_elem?}
use Rattle.bf_lane.specs.declared.relay.Log.{Log}

module _ {T : Type 0} where
  abbrev pub log : Bool → Bool → List T → List T → Log T
  log a b put taken = record { puts = a; takes = b; put = put; taken = taken }

  abbrev pub Fits : ℕ → ℕ → List T → List T → ℕ → Log T → Type 0
  Fits writer reader put taken port v =
      (v.puts ≡ true → (port ≡ writer) × (v.put ≡ put))
      × (v.takes ≡ true → (port ≡ reader) × (v.taken ≡ taken))

  abbrev pub Relayed : List T → List (Log T) → Type 0
  Relayed items views =
      (writer : ℕ) × (reader : ℕ) × (put : List T) × (taken : List T) × (put ≡ taken ++ items)
      × ((port : ℕ) (v : Log T) → get_elem? views port ≡ some v
      → Fits writer reader put taken port v)
