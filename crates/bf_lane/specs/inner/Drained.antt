-- A queue from which all was taken.
use Rattle.std.specs.Prelude.{◌≡◌, List, ◌++◌, true}
use Rattle.bf_lane.specs.declared.relay.Log.{Log}

module _ {T : Type 0} where
  pub record IsDrained (before after : Log T) : Type 0 where
    pub put : after.put ≡ before.put
    pub all : after.put ≡ after.taken
    pub more : List T
    pub taken : after.taken ≡ before.taken ++ more

  -- so far some was taken
  pub record IsDraining (before after : Log T) : Type 0 where
    pub puts : after.puts ≡ true
    pub takes : after.takes ≡ true
    pub put : after.put ≡ before.put
    pub more : List T
    pub taken : after.taken ≡ before.taken ++ more
