-- Characters, and the bytes that they are.
use Rattle.std.proofs.Common.{◌≡◌, ℕ, ◌+◌, ◌/◌, ◌%◌, ◌<◌, ◌≤◌, true, false, ◌&&◌, ltb, List, [], ◌∷◌, All, refl, subst, ⊎_elim, arith}
use Rattle.std.specs.Int.{is_in_range}
use Rattle.std.specs.List.{list_any, list_all}
use Rattle.std.proofs.lemmas.Bool.{cond_both, ltb-true, leb-true, lt-leb, lt-ltb, le-ltb, and_right, and_from, and_parts, or_from, or_cases, ne_eqb, cases_lt, both_ways, agree_below, agree_below_at}
use Rattle.std.proofs.lemmas.List.Elements.{All-nil, All-cons, All-same, All-weaker}
use Rattle.std.proofs.lemmas.Str.{encode_ascii}
use lib.Utf8.{encode}
use Rattle.bf_quoted.specs.Seen.{unseen_stretches, is_unseen_in}
use Rattle.bf_quoted.specs.Words.{is_bare_byte_in}

two : (P : ℕ → Type 0) (a b : ℕ) → P a → P b → All P (a ∷ b ∷ [])
two P a b p q = All-cons P a (b ∷ []) p (All-cons P b [] q (All-nil P))

three : (P : ℕ → Type 0) (a b c : ℕ) → P a → P b → P c → All P (a ∷ b ∷ c ∷ [])
three P a b c p q r = All-cons P a (b ∷ c ∷ []) p (two P b c q r)

four : (P : ℕ → Type 0) (a b c d : ℕ) → P a → P b → P c → P d → All P (a ∷ b ∷ c ∷ d ∷ [])
four P a b c d p q r s = All-cons P a (b ∷ c ∷ d ∷ []) p (three P b c d q r s)

-- the bytes of a character past ASCII are past ASCII
abbrev IsHigh : ℕ → Type 0
IsHigh b = 128 ≤ b

high_bytes : (c : ℕ) → 128 ≤ c → All (λ b. 128 ≤ b) (encode c)
unfolding encode
high_bytes c high =
    cond_both (ltb c 128) _ _ (All IsHigh) (λ e. let low = ltb-true c 128 e in absurd (omega arith))
    (λ _. cond_both (ltb c 2_048) _ _ (All IsHigh) (λ _. two IsHigh (192 + c / 64) (128 + c % 64) (omega arith) (omega arith))
    (λ _. cond_both (ltb c 65_536) _ _ (All IsHigh) (λ _. three IsHigh (224 + c / 4_096) (128 + c / 64 % 64) (128 + c % 64) (omega arith) (omega arith) (omega arith))
    (λ _. four IsHigh (240 + c / 262_144) (128 + c / 4_096 % 64) (128 + c / 64 % 64) (128 + c % 64) (omega arith) (omega arith) (omega arith) (omega arith))))

-- those of a character are bytes
abbrev pub IsByte : ℕ → Type 0
IsByte b = b < 256

pub small_bytes : (c : ℕ) → c < 1_114_112 → All IsByte (encode c)
unfolding encode
small_bytes c small =
    cond_both (ltb c 128) _ _ (All IsByte) (λ e. let low = ltb-true c 128 e in All-cons IsByte c [] (omega arith) (All-nil IsByte))
    (λ _. cond_both (ltb c 2_048) _ _ (All IsByte) (λ e. let low = ltb-true c 2_048 e in two IsByte (192 + c / 64) (128 + c % 64) (omega arith) (omega arith))
    (λ _. cond_both (ltb c 65_536) _ _ (All IsByte) (λ e. let low = ltb-true c 65_536 e in three IsByte (224 + c / 4_096) (128 + c / 64 % 64) (128 + c % 64) (omega arith) (omega arith) (omega arith))
    (λ _. four IsByte (240 + c / 262_144) (128 + c / 4_096 % 64) (128 + c / 64 % 64) (128 + c % 64) (omega arith) (omega arith) (omega arith) (omega arith))))

-- a character other than one of ASCII has no byte that is that one
pub other_bytes : (P : ℕ → Type 0) (c : ℕ) → P c → ((b : ℕ) → 128 ≤ b → P b) → All P (encode c)
other_bytes P c this high =
    ⊎_elim (λ low. All-same P (encode c) (c ∷ []) (encode_ascii c low) (All-cons P c [] this (All-nil P)))
    (λ large. All-weaker (λ b. 128 ≤ b) P high (encode c) (high_bytes c large)) (cases_lt c 128)

-- ---- classes

above : (first last c : ℕ) → last < c → is_in_range first last c ≡ false
above first last c h = and_right _ _ (lt-leb c last h)

-- what lies in a stretch lies below what they all lie below
below_all : (bound : ℕ) (stretches : List (ℕ × ℕ)) (c : ℕ) → list_all (λ stretch. ltb stretch.1 bound) stretches ≡ true → list_any (λ stretch. is_in_range stretch.0 stretch.1 c) stretches ≡ true → c < bound
below_all bound [] c all e = absurd (cc)
below_all bound (stretch ∷ rest) c all e =
    let (here, others) = and_parts (ltb stretch.1 bound) (list_all (λ (s : ℕ × ℕ). ltb s.1 bound) rest) all in
    ⊎_elim
    (λ inside.
    let last = leb-true c stretch.1 (and_parts _ _ inside).1 in
    let low = ltb-true stretch.1 bound here in
    omega arith)
    (λ later. below_all bound rest c others later)
    (or_cases (is_in_range stretch.0 stretch.1 c) (list_any (λ (s : ℕ × ℕ). is_in_range s.0 s.1 c) rest) e)

all_below : list_all (λ stretch. ltb stretch.1 1_114_112) unseen_stretches ≡ true
all_below = refl

-- what isn't seen is a character
pub unseen_small : (c : ℕ) → is_unseen_in c ≡ true → c < 1_114_112
unfolding is_unseen_in
unseen_small c unseen = below_all 1_114_112 unseen_stretches c all_below unseen

ascii_seen : agree_below is_unseen_in (λ c. ltb c 32) 127 ≡ true
unfolding is_unseen_in
ascii_seen = refl

-- the characters of ASCII from the space on are seen
pub seen_ascii : (c : ℕ) → 32 ≤ c → c < 127 → is_unseen_in c ≡ false
seen_ascii c low high = let e = agree_below_at is_unseen_in (λ c. ltb c 32) 127 c ascii_seen high in subst (λ b. is_unseen_in c ≡ b) (le-ltb c 32 low) e

bare_visible : agree_below (λ b. is_bare_byte_in b && ltb b 43) (λ _. false) 128 ≡ true
bare_visible = refl

-- a bare byte is one of ASCII, and is seen
pub bare_small : (b : ℕ) → is_bare_byte_in b ≡ true → (43 ≤ b) × (b < 127)
bare_small b bare =
    let below : b < 127 = ⊎_elim (λ small. small)
    (λ large. absurd (both_ways (is_bare_byte_in b)
    (or_from _ _ (or_from _ _ (or_from _ _ (above 48 57 b (omega arith)) (above 65 90 b (omega arith))) (above 97 122 b (omega arith)))
    (or_from _ _ (ne_eqb 95 b (omega arith)) (or_from _ _ (ne_eqb 64 b (omega arith)) (or_from _ _ (ne_eqb 43 b (omega arith)) (or_from _ _ (ne_eqb 58 b (omega arith))
    (or_from _ _ (ne_eqb 44 b (omega arith)) (or_from _ _ (ne_eqb 46 b (omega arith)) (or_from _ _ (ne_eqb 47 b (omega arith)) (or_from _ _ (ne_eqb 45 b (omega arith)) refl)))))))))
    bare)) (cases_lt b 127) in
    let none = agree_below_at (λ b. is_bare_byte_in b && ltb b 43) (λ _. false) 128 b bare_visible (omega arith) in
    let from : 43 ≤ b = ⊎_elim (λ low. absurd (both_ways (is_bare_byte_in b && ltb b 43) none (and_from _ _ bare (lt-ltb b 43 low)))) (λ high. high) (cases_lt b 43) in
    (from, below)
