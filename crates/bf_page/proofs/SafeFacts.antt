-- Texts as they stand on a page.
use Rattle.std.proofs.Common.{◌≡◌, ◌≢◌, ℕ, true, List, [], ◌∷◌, ◌++◌, codes, All, refl, drop, sym, ap, ◌∙◌, subst, ⊎_elim, arith}
use Rattle.std.specs.List.{AllPass, filter}
use Rattle.std.proofs.lemmas.Bool.{cases_eq, ne_eqb, cond-false, false≢true}
use Rattle.std.proofs.lemmas.List.{append_cancel_left}
use Rattle.std.proofs.lemmas.List.Elements.{All-nil, All-cons, All-append, All-head, All-tail, filter-append}
use Rattle.percent_encoding.specs.Percent.{percent_decode}
use Rattle.percent_encoding.proofs.PercentLemmas.{percent_decode-nil, percent_decode_escape, percent_decode_not_percent}
use Rattle.bf_page.specs.Safe.{safe, safe_byte, plain, IsTame, is_tag, is_cell_byte}

-- what holds of the four bytes that are escaped, and of all others, holds of each
pub by_byte : (P : ℕ → List ℕ → Type 0) → P 37 (codes "%25") → P 60 (codes "%3C") → P 13 (codes "%0D") → P 0 (codes "%00") → ((b : ℕ) → b ≢ 37 → b ≢ 60 → b ≢ 13 → b ≢ 0 → P b (b ∷ [])) → (b : ℕ) → P b (safe_byte b)
by_byte P percent less return nothing other b =
    ⊎_elim (λ e. subst (λ n. P n (safe_byte n)) (sym e) percent)
    (λ p. ⊎_elim (λ e. subst (λ n. P n (safe_byte n)) (sym e) less)
    (λ l. ⊎_elim (λ e. subst (λ n. P n (safe_byte n)) (sym e) return)
    (λ r. ⊎_elim (λ e. subst (λ n. P n (safe_byte n)) (sym e) nothing)
    (λ z. subst (P b) (sym (cond-false _ _ _ (ne_eqb b 37 p) ∙ cond-false _ _ _ (ne_eqb b 60 l) ∙ cond-false _ _ _ (ne_eqb b 13 r) ∙ cond-false _ _ _ (ne_eqb b 0 z))) (other b p l r z))
    (cases_eq b 0)) (cases_eq b 13)) (cases_eq b 60)) (cases_eq b 37)

read_byte : (rest : List ℕ) (b : ℕ) → percent_decode (safe_byte b ++ rest) ≡ b ∷ percent_decode rest
read_byte rest b =
    by_byte (λ n s. percent_decode (s ++ rest) ≡ n ∷ percent_decode rest)
    (percent_decode_escape 37 50 53 rest refl (omega arith) (omega arith))
    (percent_decode_escape 37 51 67 rest refl (omega arith) (omega arith))
    (percent_decode_escape 37 48 68 rest refl (omega arith) (omega arith))
    (percent_decode_escape 37 48 48 rest refl (omega arith) (omega arith))
    (λ n p _ _ _. percent_decode_not_percent n rest p) b

pub read_back : (text : List ℕ) → plain (safe text) ≡ text
read_back [] = percent_decode-nil
read_back (b ∷ bs) = read_byte (safe bs) b ∙ ap (λ s. b ∷ s) (read_back bs)

tame_byte : (b : ℕ) → All IsTame (safe_byte b)
tame_byte b =
    let tame3 : (x y z : ℕ) → IsTame x → IsTame y → IsTame z → All IsTame (x ∷ y ∷ z ∷ []) = λ x y z p q r. All-cons IsTame x (y ∷ z ∷ []) p (All-cons IsTame y (z ∷ []) q (All-cons IsTame z [] r (All-nil IsTame))) in
    let percent : IsTame 37 = (omega arith, omega arith, omega arith) in
    by_byte (λ _ s. All IsTame s)
    (tame3 37 50 53 percent (omega arith, omega arith, omega arith) (omega arith, omega arith, omega arith))
    (tame3 37 51 67 percent (omega arith, omega arith, omega arith) (omega arith, omega arith, omega arith))
    (tame3 37 48 68 percent (omega arith, omega arith, omega arith) (omega arith, omega arith, omega arith))
    (tame3 37 48 48 percent (omega arith, omega arith, omega arith) (omega arith, omega arith, omega arith))
    (λ n _ l r z. All-cons IsTame n [] (l, r, z) (All-nil IsTame)) b

pub all_tame : (text : List ℕ) → All IsTame (safe text)
all_tame [] = All-nil IsTame
all_tame (b ∷ bs) = All-append IsTame (safe_byte b) (safe bs) (tame_byte b) (all_tame bs)

cell_byte : (b : ℕ) → is_cell_byte b ≡ true → safe_byte b ≡ b ∷ []
cell_byte b =
    by_byte (λ n s. is_cell_byte n ≡ true → s ≡ n ∷ []) (λ e. absurd (false≢true e)) (λ e. absurd (false≢true e)) (λ e. absurd (false≢true e)) (λ e. absurd (false≢true e)) (λ _ _ _ _ _ _. refl) b

pub cells_stand : (text : List ℕ) → AllPass is_cell_byte text → safe text ≡ text
cells_stand [] pass = refl
cells_stand (b ∷ bs) pass =
    let P : ℕ → Type 0 = λ n. is_cell_byte n ≡ true in
    ap (λ s. s ++ safe bs) (cell_byte b (All-head P b bs pass)) ∙ ap (λ s. b ∷ s) (cells_stand bs (All-tail P b bs pass))

no_tag : (b : ℕ) → filter is_tag (safe_byte b) ≡ []
no_tag b = by_byte (λ _ s. filter is_tag s ≡ []) refl refl refl refl (λ n _ other _ _. cond-false _ _ _ (ne_eqb n 60 other)) b

pub no_tags : (text : List ℕ) → filter is_tag (safe text) ≡ []
no_tags [] = refl
no_tags (b ∷ bs) = filter-append is_tag (safe_byte b) (safe bs) ∙ ap (λ s. s ++ filter is_tag (safe bs)) (no_tag b) ∙ no_tags bs

-- where a text ends at the first `<`, it is read off
cut : (xs ys r s : List ℕ) → All IsTame xs → All IsTame ys → xs ++ 60 ∷ r ≡ ys ++ 60 ∷ s → (xs ≡ ys) × (r ≡ s)
cut [] [] r s tame other e = (refl, ap (drop 1) e)
cut [] (y ∷ ys) r s tame other e = absurd ((All-head IsTame y ys other).0 (cc))
cut (x ∷ xs) [] r s tame other e = absurd ((All-head IsTame x xs tame).0 (cc))
cut (x ∷ xs) (y ∷ ys) r s tame other e =
    let same : x ≡ y = cc in
    let (front, behind) = cut xs ys r s (All-tail IsTame x xs tame) (All-tail IsTame y ys other) (ap (drop 1) e) in
    ((λ i. same i ∷ front i), behind)

pub read_off : (one two g r s : List ℕ) → safe one ++ (60 ∷ g ++ r) ≡ safe two ++ (60 ∷ g ++ s) → (one ≡ two) × (r ≡ s)
read_off one two g r s e =
    let (same, rest) = cut (safe one) (safe two) (g ++ r) (g ++ s) (all_tame one) (all_tame two) e in
    (sym (read_back one) ∙ ap plain same ∙ read_back two, append_cancel_left g r s rest)
