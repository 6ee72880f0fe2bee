-- What a path may hold while its file is replaced.
use Rattle.std.proofs.Common.{◌≡◌, ℕ, zero, suc, List, [], ◌∷◌, ◌++◌, true, take, Option, None, Some, ◌⊎◌, inl, inr, sym, ap, ◌∙◌, subst, append_assoc, append-nil}
use Rattle.std.specs.List.{list_all}
use Rattle.std.proofs.lemmas.Bool.{false≢true}
use Rattle.std.proofs.lemmas.List.{take_all}
use Rattle.bf_file.specs.declared.call.Call.{Call}
use Rattle.bf_file.specs.Replacing.{IsReplacing, IsStored, MayHold, MayHoldBehind, held_after, held_behind, is_write, text_by}

-- the last two calls
ends : (held now beside : Option (List ℕ)) (text : List ℕ) (safe : Option ℕ) (n : ℕ)
    → MayHoldBehind held text safe (take n (Call.Synced ∷ Call.Renamed ∷ [])) now beside → (now ≡ held) ⊎ (now ≡ Some text)
ends held now beside text safe zero may = inl may.0
ends held now beside text safe (suc zero) may = inl may.0
ends held now beside text safe (suc (suc n)) (inl old) = inl old.0
ends held now beside text safe (suc (suc n)) (inr new) = inr (new.0.2 ∙ ap Some (take_all new.0.0 text new.0.1))

pub holds : (writes : List Call) → list_all is_write writes ≡ true → (held now beside : Option (List ℕ)) (text : List ℕ) (safe : Option ℕ) (n : ℕ)
    → MayHoldBehind held text safe (take n (writes ++ Call.Synced ∷ Call.Renamed ∷ [])) now beside → (now ≡ held) ⊎ (now ≡ Some (text ++ text_by writes))
holds [] all held now beside text safe n may = elim (ends held now beside text safe n may) [
  | inl old ↦ inl old
  | inr new ↦ inr (new ∙ ap Some (sym (append-nil text)))
]
holds (Call.Wrote bytes ∷ writes) all held now beside text safe zero may = inl may.0
holds (Call.Wrote bytes ∷ writes) all held now beside text safe (suc n) may = elim (holds writes all held now beside (text ++ bytes) safe n may) [
  | inl old ↦ inl old
  | inr new ↦ inr (new ∙ ap Some (append_assoc text bytes (text_by writes)))
]
holds (Call.Synced ∷ writes) all held now beside text safe n may = absurd (false≢true all)
holds (Call.Renamed ∷ writes) all held now beside text safe n may = absurd (false≢true all)

pub old_or_new : (text : List ℕ) (calls : List Call) → IsReplacing text calls → (held now beside : Option (List ℕ)) (n : ℕ)
    → MayHold held (take n calls) now beside → (now ≡ held) ⊎ (now ≡ Some text)
old_or_new text calls is held now beside n may =
    elim (holds is.writes is.are_writes held now beside [] None n (subst (λ made. MayHold held (take n made) now beside) is.in_order may)) [
      | inl old ↦ inl old
      | inr new ↦ inr (new ∙ ap Some is.text_is)
    ]

-- where the rename failed
stays : (writes : List Call) → list_all is_write writes ≡ true → (held now beside : Option (List ℕ)) (text : List ℕ) (safe : Option ℕ)
    → MayHoldBehind held text safe (writes ++ Call.Synced ∷ []) now beside → (now ≡ held) × (beside ≡ Some (text ++ text_by writes))
stays [] all held now beside text safe may = (may.0, may.1.2 ∙ ap Some (take_all may.1.0 text may.1.1 ∙ sym (append-nil text)))
stays (Call.Wrote bytes ∷ writes) all held now beside text safe may =
    let both = stays writes all held now beside (text ++ bytes) safe may in
    (both.0, both.1 ∙ ap Some (append_assoc text bytes (text_by writes)))
stays (Call.Synced ∷ writes) all held now beside text safe may = absurd (false≢true all)
stays (Call.Renamed ∷ writes) all held now beside text safe may = absurd (false≢true all)

pub left_whole : (text : List ℕ) (calls : List Call) → IsStored text calls → (held now beside : Option (List ℕ))
    → MayHold held calls now beside → (now ≡ held) × (beside ≡ Some text)
left_whole text calls is held now beside may =
    let both = stays is.writes is.are_writes held now beside [] None (subst (λ made. MayHold held made now beside) is.in_order may) in
    (both.0, both.1 ∙ ap Some is.text_is)

-- where the machine goes on
pub holds_new : (writes : List Call) → list_all is_write writes ≡ true → (held : Option (List ℕ)) (text : List ℕ)
    → held_behind held text (writes ++ Call.Synced ∷ Call.Renamed ∷ []) ≡ Some (text ++ text_by writes)
holds_new [] all held text = ap Some (sym (append-nil text))
holds_new (Call.Wrote bytes ∷ writes) all held text =
    holds_new writes all held (text ++ bytes) ∙ ap Some (append_assoc text bytes (text_by writes))
holds_new (Call.Synced ∷ writes) all held text = absurd (false≢true all)
holds_new (Call.Renamed ∷ writes) all held text = absurd (false≢true all)

pub new_text : (text : List ℕ) (calls : List Call) → IsReplacing text calls → (held : Option (List ℕ)) → held_after held calls ≡ Some text
new_text text calls is held =
    ap (held_after held) is.in_order ∙ holds_new is.writes is.are_writes held [] ∙ ap Some is.text_is
