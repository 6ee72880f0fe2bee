-- What the bytes of a graph file say.
use Rattle.std.proofs.Common.{◌≡◌, ℕ, Bool, true, false, if◌then◌else◌, IsUtf8, List, length, Option, None, Some, Err, nat_le, refl, ap, ◌∙◌}
use Rattle.std.specs.Str.{is_utf8}
use Rattle.std.proofs.lemmas.Str.{IsUtf8-from_is_utf8, is_utf8-from_IsUtf8}
use Rattle.serde_json.specs.Data.{Data}
use Rattle.serde_json.specs.Read.{read}
use Rattle.bf_read.specs.declared.fault.ReadFault.{ReadFault}
use Rattle.bf_read.specs.Limits.{most_bytes}
use Rattle.bf_read.specs.Fields.{refuse_beyond_limit_of}
use Rattle.bf_read.specs.Reading.{data_in, draft_in, graph_in, graph_of}

pub short_file : (bytes : List ℕ) → nat_le (length bytes) most_bytes ≡ true → graph_in bytes ≡ graph_of (data_in bytes)
unfolding graph_in refuse_beyond_limit_of
short_file bytes short = rw short refl

pub json_file : (bytes : List ℕ) (d : Data) → nat_le (length bytes) most_bytes ≡ true → IsUtf8 bytes → read bytes ≡ Some d → graph_in bytes ≡ draft_in d
json_file bytes d short text is = short_file bytes short ∙ ap (λ b. graph_of (if b then read bytes else None)) (is_utf8-from_IsUtf8 bytes text) ∙ ap graph_of is

no_data : (b : Bool) (o : Option Data) → (b ≡ true → o ≡ None) → (if b then o else None) ≡ None
no_data true o none = none refl
no_data false o none = refl

pub no_json_file : (bytes : List ℕ) → nat_le (length bytes) most_bytes ≡ true → (IsUtf8 bytes → read bytes ≡ None) → graph_in bytes ≡ Err ReadFault.NotJson
no_json_file bytes short none = short_file bytes short ∙ ap graph_of (no_data (is_utf8 bytes) (read bytes) (λ e. none (IsUtf8-from_is_utf8 bytes e)))
