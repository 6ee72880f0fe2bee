-- What the text of a zone asks for.
use Rattle.std.proofs.Common.{◌≡◌, List, ℕ, Bool, false, true, cond, codes, refl, sym, subst, Option}
use Rattle.std.specs.Str.{bytes_eq}
use Rattle.std.proofs.lemmas.Slice.Eq.{bytes_eq-Decides}
use Rattle.jiff.specs.Types.{TimeZone}
use Rattle.bf_zone.specs.Offsets.{offset_of}
use Rattle.bf_zone.specs.Zones.{asked, Asked, offset_or_rule, utc, file_asked, IsZone}

third : (a b : Bool) (x y z : Asked) → (a ≡ true → ⊥) → (b ≡ true → ⊥) → cond a x (cond b y z) ≡ z
third true b x y z e h = absurd (e refl)
third false true x y z e h = absurd (h refl)
third false false x y z e h = refl

-- what is neither `UTC` nor `file` asks for an offset or a rule
asked_other : (text : List ℕ) → (text ≡ codes "UTC" → ⊥) → (text ≡ codes "file" → ⊥) → asked text ≡ offset_or_rule (offset_of text) text
asked_other text e h =
    third (bytes_eq text (codes "UTC")) (bytes_eq text (codes "file")) utc file_asked (offset_or_rule (offset_of text) text)
    (λ t. e ((bytes_eq-Decides text (codes "UTC")).0 t)) (λ t. h ((bytes_eq-Decides text (codes "file")).0 t))

pub other_meant : (text : List ℕ) (bytes : Option (List ℕ)) (x z : TimeZone) → (text ≡ codes "UTC" → ⊥) → (text ≡ codes "file" → ⊥) → IsZone (offset_or_rule (offset_of text) text) bytes x → z ≡ x → IsZone (asked text) bytes z
other_meant text bytes x z e h is same =
    let P : Asked → Type 0 = λ a. IsZone a bytes z in
    let Q : TimeZone → Type 0 = λ y. IsZone (offset_or_rule (offset_of text) text) bytes y in
    subst P (sym (asked_other text e h)) (subst Q (sym same) is)

pub meant_other : (text : List ℕ) (bytes : Option (List ℕ)) (z : TimeZone) → (text ≡ codes "UTC" → ⊥) → (text ≡ codes "file" → ⊥) → IsZone (asked text) bytes z → IsZone (offset_or_rule (offset_of text) text) bytes z
meant_other text bytes z e h is =
    let P : Asked → Type 0 = λ a. IsZone a bytes z in
    subst P (asked_other text e h) is
