-- Texts by their bytes.
use Rattle.std.proofs.Common.{◌≡◌, ℕ, ◌+◌, ◌/◌, ◌%◌, List, [], ◌∷◌, get_or, ap, ◌∙◌, sym, arith}
use Rattle.std.proofs.Common.{◌++◌, length, take, drop, append_assoc}
use Rattle.std.proofs.lemmas.List.{take-append-drop, drop-drop}
use Rattle.std.proofs.Math.Seq.{drop-cons}
use Rattle.std.proofs.Math.ListN.{drop_of_length-le}
use Rattle.std.proofs.Common.{subst, inl}
use Rattle.jiff.specs.Types.{Date, Time, DateTime}
use Rattle.bf_moment.specs.Moment.{two, four}
use Rattle.bf_moment.specs.inner.Clock.{clock_date_text, clock_time_text, IsShownDate, SpellsClock}

both : (a b c d : ℕ) → a ≡ c → b ≡ d → a ∷ b ∷ [] ≡ c ∷ d ∷ []
both a b c d e h = cc

pub low_digits : (n a b c d : ℕ) → four n ≡ a ∷ b ∷ c ∷ d ∷ [] → two (n % 100) ≡ c ∷ d ∷ []
low_digits n a b c d e =
    let third = ap (λ l. get_or l 2 0) e in
    let fourth = ap (λ l. get_or l 3 0) e in
    both _ _ c d (omega arith) (omega arith)

-- digits of a number that are read, in the words of another that is the same
pub spelled : (n m a b : ℕ) → two n ≡ a ∷ b ∷ [] → m ≡ n → (a ≡ 48 + m / 10) × (b ≡ 48 + m % 10)
spelled n m a b e same =
    let first = ap (λ l. get_or l 0 0) e in
    let second = ap (λ l. get_or l 1 0) e in
    (omega arith, omega arith)

pub spelled_year : (n m a b c d : ℕ) → four n ≡ a ∷ b ∷ c ∷ d ∷ [] → m ≡ n → (a ≡ 48 + m / 1000) × (b ≡ 48 + m / 100 % 10) × (c ≡ 48 + m / 10 % 10) × (d ≡ 48 + m % 10)
spelled_year n m a b c d e same =
    let first = ap (λ l. get_or l 0 0) e in
    let second = ap (λ l. get_or l 1 0) e in
    let third = ap (λ l. get_or l 2 0) e in
    let fourth = ap (λ l. get_or l 3 0) e in
    (omega arith, omega arith, omega arith, omega arith)

-- the first four bytes of a text that spells a year
pub year_read : (n : ℕ) (text rest : List ℕ) → text ≡ (48 + n / 1000) ∷ (48 + n / 100 % 10) ∷ (48 + n / 10 % 10) ∷ (48 + n % 10) ∷ rest → four n ≡ get_or text 0 0 ∷ get_or text 1 0 ∷ get_or text 2 0 ∷ get_or text 3 0 ∷ []
year_read n text rest e = ap (λ l. get_or l 0 0 ∷ get_or l 1 0 ∷ get_or l 2 0 ∷ get_or l 3 0 ∷ []) (sym e)

-- a text of 20 bytes by its parts
pub parts : (text a b : List ℕ) → length text ≡ 20 → take 10 text ≡ a → get_or text 10 0 ≡ 84 → take 8 (drop 11 text) ≡ b → get_or text 19 0 ≡ 90 → text ≡ a ++ 84 ∷ b ++ 90 ∷ []
parts text a b len first t second z =
    let tail : drop 19 text ≡ 90 ∷ [] = drop-cons text 19 0 (omega arith) ∙ ap (λ c. c ∷ drop 20 text) z ∙ ap (λ l. 90 ∷ l) (drop_of_length-le text {i = 20} (omega arith)) in
    let rest : drop 11 text ≡ b ++ 90 ∷ [] = sym (take-append-drop 8 (drop 11 text)) ∙ ap (λ l. l ++ drop 8 (drop 11 text)) second ∙ ap (λ l. b ++ l) (drop-drop 8 11 text ∙ tail) in
    let middle : drop 10 text ≡ 84 ∷ (b ++ 90 ∷ []) = drop-cons text 10 0 (omega arith) ∙ ap (λ c. c ∷ drop 11 text) t ∙ ap (λ l. 84 ∷ l) rest in
    let whole : text ≡ a ++ (84 ∷ (b ++ 90 ∷ [])) = sym (take-append-drop 10 text) ∙ ap (λ l. l ++ drop 10 text) first ∙ ap (λ l. a ++ l) middle in
    whole ∙ sym (append_assoc a (84 ∷ b) (90 ∷ []))

-- both parts of a moment's text
pub clock_read : (text : List ℕ) (d : Date) (t : Time) (at : DateTime) → at.date ≡ d → at.time ≡ t → IsShownDate d → t.subsec_nanosecond ≡ 0 → length text ≡ 20 → take 10 text ≡ clock_date_text d → get_or text 10 0 ≡ 84 → take 8 (drop 11 text) ≡ clock_time_text t → get_or text 19 0 ≡ 90 → SpellsClock text at
clock_read text d t at date time shown whole len first mid second z =
    record {
      year = (let P : Date → Type 0 = λ x. IsShownDate x in subst P (sym date) shown);
      whole = ap (λ x. x.subsec_nanosecond) time ∙ whole;
      text = inl (parts text (clock_date_text d) (clock_time_text t) len first mid second z ∙ ap (λ x. clock_date_text x ++ 84 ∷ clock_time_text t ++ 90 ∷ []) (sym date) ∙ ap (λ x. clock_date_text at.date ++ 84 ∷ clock_time_text x ++ 90 ∷ []) (sym time));
    }
