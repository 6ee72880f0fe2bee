-- What is written to a page.
use Rattle.std.proofs.Common.{◌≡◌, ℕ, List, [], ◌∷◌, ◌++◌, true, Option, None, Some, Ok, ◌≢◌, zero, suc, inl, inr, subst, refl, sym, ap, ◌∙◌, append_assoc, append-nil}
use Rattle.std.specs.List.{list_all}
use Rattle.std.proofs.lemmas.Bool.{false≢true}
use Rattle.std.specs.Prelude.{option_map}
use Rattle.bf_device.specs.Device.{HasHalted, WentOn, sent, write_failed}
use Rattle.bf_file.specs.Pages.{HasReplacedBy}
use Rattle.bf_file.specs.declared.call.Call.{Call}
use Rattle.bf_file.specs.declared.call.Placed.{Placed}
use Rattle.bf_file.specs.Replacing.{is_write, made, only_writes, placed_with, text_by}

text_more : (calls : List Call) (bytes : List ℕ) → text_by (calls ++ Call.Wrote bytes ∷ []) ≡ text_by calls ++ bytes
text_more [] bytes = append-nil bytes
text_more (Call.Wrote first ∷ calls) bytes = ap (λ t. first ++ t) (text_more calls bytes) ∙ sym (append_assoc first (text_by calls) bytes)
text_more (Call.Synced ∷ calls) bytes = text_more calls bytes
text_more (Call.Renamed ∷ calls) bytes = text_more calls bytes

all_more : (calls : List Call) (bytes : List ℕ) → list_all is_write calls ≡ true → list_all is_write (calls ++ Call.Wrote bytes ∷ []) ≡ true
all_more [] bytes all = refl
all_more (Call.Wrote first ∷ calls) bytes all = all_more calls bytes all
all_more (Call.Synced ∷ calls) bytes all = absurd (false≢true all)
all_more (Call.Renamed ∷ calls) bytes all = absurd (false≢true all)

-- a write goes on with the text
pub wrote_text : (told : Option (List Call)) (bytes : List ℕ) → option_map text_by (made told (Call.Wrote bytes)) ≡ sent (option_map text_by told) bytes
wrote_text None bytes = refl
wrote_text (Some calls) bytes = ap Some (text_more calls bytes)

-- and is one more write
pub only_more : (told : Option (List Call)) (bytes : List ℕ) → only_writes told ≡ true → only_writes (made told (Call.Wrote bytes)) ≡ true
only_more None bytes only = refl
only_more (Some calls) bytes only = all_more calls bytes only

-- a page that was synced and renamed has replaced a file
pub replaces : (before : Option (List Placed)) (path : Option (List ℕ)) (told : Option (List Call)) → only_writes told ≡ true
    → HasReplacedBy before (placed_with before path (made told Call.Synced)) path (option_map text_by told)
replaces before None told only = tt
replaces before (Some path) None only = tt
replaces None (Some path) (Some calls) only = tt
replaces (Some before) (Some path) (Some calls) only = (
  _,
  record {
    writes = calls;
    are_writes = only;
    text_is = refl;
    in_order = append_assoc calls (Call.Synced ∷ []) (Call.Renamed ∷ []);
  },
  refl,
)

-- a write that took some of some bytes didn't fail
pub took_some : (bytes : List ℕ) (n : ℕ) → (bytes ≢ [] → n ≢ 0) → write_failed bytes (Ok n) ≡ 0
took_some [] n some = refl
took_some (b ∷ bytes) zero some = absurd (some (λ e. cc) refl)
took_some (b ∷ bytes) (suc n) some = refl

-- a page that halted has failed
pub halted : (failures : ℕ) → HasHalted 0 failures 0 0 → failures ≢ 0
halted failures (inl failed) = λ none. (let bad : WentOn 1 0 0 = subst (WentOn 1 0) none failed in cc)
halted failures (inr interrupted) = λ none. (cc)
