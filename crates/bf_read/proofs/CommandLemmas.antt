-- Words of commands.
use Rattle.std.proofs.Common.{◌≡◌, ◌≢◌, ℕ, List, [], ◌∷◌, ◌++◌, length, drop, Some, None, option_map, String, Global, string_bytes, refl, ap, arith}
use Rattle.std.specs.List.{filter_map, slice_get}
use Rattle.serde_json.specs.View.{view, members_view}
use Rattle.serde_json.specs.declared.value.Value.{Value}
use Rattle.bf_read.specs.declared.draft.WordDraft.{WordDraft}
use Rattle.bf_read.specs.Drafts.{pulled_by}
use Rattle.bf_read.specs.Commands.{only_entry_in}

-- ---- the only member

pub only_one : (es : List (String Global × Value)) (e : String Global × Value) → length es ≡ 1 → slice_get es 0 ≡ Some e → only_entry_in (members_view es) ≡ Some (string_bytes e.0, view e.1)
only_one [] e one first = absurd (omega arith)
only_one (d ∷ []) e one first = ap (option_map (λ (m : String Global × Value). (string_bytes m.0, view m.1))) first
only_one (d ∷ f ∷ es) e one first = absurd (omega arith)

pub not_one : (es : List (String Global × Value)) → length es ≢ 1 → only_entry_in (members_view es) ≡ None
not_one [] other = refl
not_one (d ∷ []) other = absurd (other refl)
not_one (d ∷ f ∷ es) other = refl

-- ---- pulled ids

-- the ids so far, and those of the words from n on
abbrev pub with_rest : List (List ℕ) → List WordDraft → ℕ → List (List ℕ)
with_rest ids words n = ids ++ filter_map pulled_by (drop n words)
