-- What is given, as it is shared.
use Rattle.std.specs.Prelude.{[], Some}
use Rattle.bf_xcom.specs.Givens.{nothing_given}
use Rattle.bf_xcom.specs.declared.values.Given.{Given}
use Rattle.bf_xcom.specs.declared.shared_given.Shared.{Shared}

abbrev pub given_shared : Shared → Given
given_shared Shared.Nothing = nothing_given
given_shared (Shared.Item item) = record { item = Some item.value; pulled = [] }
given_shared (Shared.Whole given) = given.value
