-- How many bytes a page has, at most.
use Rattle.std.proofs.Common.{◌≡◌, ◌≤◌, ◌<◌, ◌+◌, ◌*◌, ◌||◌, ℕ, Bool, true, false, List, [], ◌∷◌, ◌++◌, length, map, not, refl, arith}
use Rattle.std.specs.List.{concat, list_any}
use Rattle.std.proofs.lemmas.Bool.Decides.{nat_tests}
use Rattle.std.proofs.lemmas.List.{length-append}
use Rattle.bf_page.specs.inner.Counted.{is_long}
use Rattle.bf_page.specs.Safe.{safe, safe_byte}
use Rattle.bf_page.proofs.SafeFacts.{by_byte}

-- texts, each behind a piece
abbrev pub woven : List (List ℕ) → List (List ℕ) → List (List ℕ)
woven [] told = map safe told
woven (piece ∷ fixed) [] = piece ∷ fixed
woven (piece ∷ fixed) (text ∷ told) = piece ∷ safe text ∷ woven fixed told

length_woven : (fixed told : List (List ℕ)) → length (concat (woven fixed told)) ≡ length (concat fixed) + length (concat (map safe told))
length_woven [] told = omega arith
length_woven (piece ∷ fixed) [] = omega arith
length_woven (piece ∷ fixed) (text ∷ told) =
    omega (arith, length-append piece (safe text ++ concat (woven fixed told)), length-append (safe text) (concat (woven fixed told)), length_woven fixed told, length-append piece (concat fixed), length-append (safe text) (concat (map safe told)))

three_bytes : (b : ℕ) → length (safe_byte b) ≤ 3
three_bytes = by_byte (λ _ s. length s ≤ 3) (omega arith) (omega arith) (omega arith) (omega arith) (λ b p q r s. omega arith)

length_safe : (text : List ℕ) → length (safe text) ≤ 3 * length text
length_safe [] = omega arith
length_safe (b ∷ text) = omega (arith, length-append (safe_byte b) (safe text), three_bytes b, length_safe text)

or_false : (a b : Bool) → (a || b) ≡ false → (a ≡ false) × (b ≡ false)
or_false true b is = cc
or_false false b is = (refl, is)

short : (text : List ℕ) → is_long text ≡ false → length text ≤ 288_230_376_151_711_744
short text is = grind (arith, nat_tests)

fixed_length : (fixed : List (List ℕ)) → list_any is_long fixed ≡ false → length (concat fixed) ≤ 288_230_376_151_711_744 * length fixed
fixed_length [] is = omega arith
fixed_length (piece ∷ fixed) is =
    let parts = or_false (is_long piece) (list_any is_long fixed) is in
    omega (arith, length-append piece (concat fixed), short piece parts.0, fixed_length fixed parts.1)

told_length : (told : List (List ℕ)) → list_any is_long told ≡ false → length (concat (map safe told)) ≤ 864_691_128_455_135_232 * length told
told_length [] is = omega arith
told_length (text ∷ told) is =
    let parts = or_false (is_long text) (list_any is_long told) is in
    omega (arith, length-append (safe text) (concat (map safe told)), length_safe text, short text parts.0, told_length told parts.1)

length_behind : (fixed : List (List ℕ)) (last : List ℕ) → length (concat (fixed ++ last ∷ [])) ≡ length (concat fixed) + length last
length_behind [] last = omega (arith, length-append last [])
length_behind (piece ∷ fixed) last = omega (arith, length-append piece (concat (fixed ++ last ∷ [])), length-append piece (concat fixed), length_behind fixed last)

-- of so many texts, none of them long, 64 bits count the bytes
pub woven_counted : (fixed last told : List (List ℕ)) → length fixed + length last ≤ 42 → length told ≤ 7 → list_any is_long fixed ≡ false → list_any is_long last ≡ false → list_any is_long told ≡ false
    → length (concat (woven (fixed ++ concat last ∷ []) told)) < 18_446_744_073_709_551_616
woven_counted fixed last told few seven pieces ends texts =
    omega (arith, length_woven (fixed ++ concat last ∷ []) told, length_behind fixed (concat last), fixed_length fixed pieces, fixed_length last ends, told_length told texts, few, seven)

long : (text : List ℕ) → length text ≤ 288_230_376_151_711_744 → is_long text ≡ false
long text is = grind (arith, nat_tests)

-- none of seven texts is long, of which the graph and the report are looked at apart
pub none_long : (a b c d e graph report : List ℕ) → list_any is_long (a ∷ b ∷ c ∷ d ∷ e ∷ []) ≡ false → length graph ≤ 288_230_376_151_711_744 → length report ≤ 288_230_376_151_711_744
    → list_any is_long (a ∷ b ∷ c ∷ d ∷ graph ∷ report ∷ e ∷ []) ≡ false
none_long a b c d e graph report five graph_is report_is =
    let (no_a, from_b) = or_false (is_long a) (list_any is_long (b ∷ c ∷ d ∷ e ∷ [])) five in
    let (no_b, from_c) = or_false (is_long b) (list_any is_long (c ∷ d ∷ e ∷ [])) from_b in
    let (no_c, from_d) = or_false (is_long c) (list_any is_long (d ∷ e ∷ [])) from_c in
    let (no_d, from_e) = or_false (is_long d) (list_any is_long (e ∷ [])) from_d in
    rw (no_a, no_b, no_c, no_d, long graph graph_is, long report report_is) from_e

pub unset : (b : Bool) → not b ≡ true → b ≡ false
unset true is = cc
unset false is = refl
