-- The data of a graph file.
use Rattle.std.proofs.Common.{◌≡◌, ℕ, Bool, true, false, if◌then◌else◌, IsUtf8, List, Option, None, Some, refl, ap, ◌∙◌}
use Rattle.std.specs.Str.{is_utf8}
use Rattle.std.proofs.lemmas.Str.{IsUtf8-from_is_utf8, is_utf8-from_IsUtf8}
use Rattle.serde_json.specs.Data.{Data}
use Rattle.serde_json.specs.Read.{read}
use Rattle.bf_read.specs.Reading.{data_in}

pub data_there : (bytes : List ℕ) (d : Data) → IsUtf8 bytes → read bytes ≡ Some d → data_in bytes ≡ Some d
data_there bytes d text is = ap (λ b. if b then read bytes else None) (is_utf8-from_IsUtf8 bytes text) ∙ is

no_data : (b : Bool) (o : Option Data) → (b ≡ true → o ≡ None) → (if b then o else None) ≡ None
no_data true o none = none refl
no_data false o none = refl

pub no_data_there : (bytes : List ℕ) → (IsUtf8 bytes → read bytes ≡ None) → data_in bytes ≡ None
no_data_there bytes none = no_data (is_utf8 bytes) (read bytes) (λ e. none (IsUtf8-from_is_utf8 bytes e))
