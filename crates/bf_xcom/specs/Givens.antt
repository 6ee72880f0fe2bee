-- What a try is given where nothing is.
use Rattle.std.specs.Prelude.{[], None}
use Rattle.bf_xcom.specs.declared.values.Given.{Given}

abbrev pub nothing_given : Given
nothing_given = record { item = None; pulled = [] }
