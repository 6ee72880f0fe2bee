-- Values that are shown as they are have no float.
use Rattle.std.proofs.Common.{◌≡◌, false, refl}
use Rattle.std.specs.Prelude.{is_some}
use Rattle.serde_json.specs.Data.{Data, unsigned, negative, float, null, boolean, number, string, array, object}
use Rattle.serde_json.specs.Find.{as_array, as_object}
use Rattle.serde_json.specs.Written.{has_float}
use Rattle.bf_findings.specs.Shown.{is_no_whole_number_in}

pub no_float : (d : Data) → is_some (as_array d) ≡ false → is_some (as_object d) ≡ false → is_no_whole_number_in d ≡ false → has_float d ≡ false
no_float null a o f = refl
no_float (boolean b) a o f = refl
no_float (number (unsigned n)) a o f = refl
no_float (number (negative z)) a o f = refl
no_float (number (float x)) a o f = absurd (cc)
no_float (string s) a o f = refl
no_float (array ds) a o f = absurd (cc)
no_float (object ms) a o f = absurd (cc)
