-- The moments from and up to which runs are shown.
use Rattle.std.specs.Prelude.{◌⊎◌, Bool, false, int_lt, Option, None, Some, String, string_bytes}
use Rattle.std.specs.Global.{Global}
use Rattle.jiff.specs.declared.timestamp.Timestamp.{Timestamp}
use Rattle.bf_command_line.specs.declared.forms.ShowAsked.{ShowAsked}
use Rattle.bf_input.specs.Moments.{IsNoMoment, Means}
use Rattle.bf_views.specs.declared.bounds.Bounds.{Bounds}

-- the text means this moment, where there is one
abbrev pub MeansIfGiven : Option (String Global) → Option Timestamp → Type 0
MeansIfGiven None None = Unit {0}
MeansIfGiven (Some text) (Some t) = Means (string_bytes text) t
MeansIfGiven _ _ = ⊥

abbrev pub MeansBounds : ShowAsked → Bounds → Type 0
MeansBounds asked bounds = MeansIfGiven asked.from bounds.from × MeansIfGiven asked.to bounds.to

-- there is a text, which means no moment
abbrev pub IsNoMomentIfGiven : Option (String Global) → Type 0
IsNoMomentIfGiven None = ⊥
IsNoMomentIfGiven (Some text) = IsNoMoment (string_bytes text)

abbrev pub HasNoBound : ShowAsked → Type 0
HasNoBound asked = IsNoMomentIfGiven asked.from ⊎ IsNoMomentIfGiven asked.to

-- the first lies after the last
abbrev pub is_behind : Option Timestamp → Option Timestamp → Bool
is_behind (Some from) (Some to) = int_lt to.nanosecond from.nanosecond
is_behind _ _ = false

abbrev pub is_reversed_in : Bounds → Bool
is_reversed_in bounds = is_behind bounds.from bounds.to
