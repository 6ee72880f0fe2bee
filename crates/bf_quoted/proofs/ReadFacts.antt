-- What a shell reads of a quoted word.
use Rattle.std.proofs.Common.{◌≡◌, ◌≢◌, ℕ, ◌+◌, ◌-◌, ◌*◌, ◌/◌, ◌%◌, ◌<◌, true, ◌==◌, ◌||◌, List, [], ◌∷◌, ◌++◌, All, length, fold, refl, sym, ap, ◌∙◌, subst, ⊎_elim, arith, append_assoc, append-nil}
use Rattle.std.specs.List.{flat_map, list_any, list_all}
use Rattle.std.specs.Str.{chars, IsUtf8}
use Rattle.std.proofs.lemmas.Bool.{cond_both, cond-true, cond-false, ne_eqb, eqb-true, eqb-false, or_from, or_cases, or_parts, and_from, and_parts, le-leb, leb-true, cases_eq, false≢true}
use Rattle.std.proofs.lemmas.List.Elements.{All-head, All-tail}
use Rattle.std.proofs.lemmas.List.Sums.{fold-append}
use Rattle.std.proofs.lemmas.Str.{encode_ascii, encodes-chars}
use lib.Utf8.{encode, encodes}
use Rattle.bf_quoted.specs.Seen.{is_unseen_in}
use Rattle.bf_quoted.specs.Words.{is_bare_byte_in, is_bare_word_in, quoted_char, octal, escaped_char, quoted}
use Rattle.bf_quoted.specs.Shell.{Reading, bare, in_quotes, in_dollar_quotes, in_escape, behind_digit, behind_digits, is_octal, reads_on, read_by_shell}
use Rattle.bf_quoted.proofs.CharFacts.{IsByte, small_bytes, other_bytes, unseen_small, bare_small}

-- in a place where each of some bytes is itself, all of them are themselves
themselves : (at : List ℕ → Reading) (P : ℕ → Type 0) → ((word : List ℕ) (b : ℕ) → P b → reads_on (at word) b ≡ at (word ++ b ∷ [])) → (bs word : List ℕ) → All P bs → fold reads_on (at word) bs ≡ at (word ++ bs)
themselves at P step [] word all = ap at (sym (append-nil word))
themselves at P step (b ∷ bs) word all =
    ap (λ r. fold reads_on r bs) (step word b (All-head P b bs all)) ∙ themselves at P step bs (word ++ b ∷ []) (All-tail P b bs all) ∙ ap at (append_assoc word (b ∷ []) bs)

-- in a place where each character is read from what stands for it, all of them are
each_char : (at : List ℕ → Reading) (f : ℕ → List ℕ) → ((word : List ℕ) (c : ℕ) → fold reads_on (at word) (f c) ≡ at (word ++ encode c)) → (cs word : List ℕ) → fold reads_on (at word) (flat_map f cs) ≡ at (word ++ encodes cs)
each_char at f step [] word = ap at (sym (append-nil word))
each_char at f step (c ∷ cs) word =
    fold-append reads_on (at word) (f c) (flat_map f cs) ∙ ap (λ r. fold reads_on r (flat_map f cs)) (step word c) ∙ each_char at f step cs (word ++ encode c) ∙ ap at (append_assoc word (encode c) (encodes cs))

-- ---- bare

abbrev Bare : ℕ → Type 0
Bare b = is_bare_byte_in b ≡ true

bare_step : (word : List ℕ) (b : ℕ) → Bare b → reads_on (bare word) b ≡ bare (word ++ b ∷ [])
bare_step word b e =
    let (from, _) = bare_small b e in
    let not_backslash : b ≢ 92 = λ is. false≢true (subst Bare is e) in
    cond-false _ _ _ (ne_eqb b 39 (omega arith)) ∙ cond-false _ _ _ (ne_eqb b 92 not_backslash) ∙ cond-false _ _ _ (ne_eqb b 36 (omega arith)) ∙ cond-true _ _ _ e

bare_read : (bs word : List ℕ) → list_all is_bare_byte_in bs ≡ true → fold reads_on (bare word) bs ≡ bare (word ++ bs)
bare_read [] word e = ap bare (sym (append-nil word))
bare_read (b ∷ bs) word e =
    let (this, others) = and_parts (is_bare_byte_in b) (list_all is_bare_byte_in bs) e in
    ap (λ r. fold reads_on r bs) (bare_step word b this) ∙ bare_read bs (word ++ b ∷ []) others ∙ ap bare (append_assoc word (b ∷ []) bs)

-- ---- in `'..'`

quotes_step : (word : List ℕ) (b : ℕ) → b ≢ 39 → reads_on (in_quotes word) b ≡ in_quotes (word ++ b ∷ [])
quotes_step word b other = cond-false _ _ _ (ne_eqb b 39 other)

quoted_char_read : (word : List ℕ) (c : ℕ) → fold reads_on (in_quotes word) (quoted_char c) ≡ in_quotes (word ++ encode c)
quoted_char_read word c =
    ⊎_elim
    (λ e. subst (λ n. fold reads_on (in_quotes word) (quoted_char n) ≡ in_quotes (word ++ encode n)) (sym e) (ap (λ s. in_quotes (word ++ s)) (sym (encode_ascii 39 (omega arith)))))
    (λ other.
    ap (fold reads_on (in_quotes word)) (cond-false _ _ _ (ne_eqb c 39 other))
    ∙ themselves in_quotes (λ b. b ≢ 39) quotes_step (encode c) word (other_bytes (λ b. b ≢ 39) c other (λ b high. omega arith)))
    (cases_eq c 39)

-- ---- in `$'..'`

octal_digit : (d : ℕ) → d < 8 → is_octal (48 + d) ≡ true
octal_digit d small = and_from _ _ (le-leb 48 (48 + d) (omega arith)) (le-leb (48 + d) 55 (omega arith))

digit_alone : (d : ℕ) → 48 + d - 48 ≡ d
digit_alone d = omega arith

octal_read : (word : List ℕ) (b : ℕ) → IsByte b → fold reads_on (in_dollar_quotes word) (octal b) ≡ in_dollar_quotes (word ++ b ∷ [])
octal_read word b small =
    let one = b / 64 in
    let two = b / 8 % 8 in
    let three = b % 8 in
    let value : 8 * (8 * one + two) + three ≡ b = omega arith in
    let first : reads_on (in_escape word) (48 + one) ≡ behind_digit one word =
    cond-false _ _ _ (or_from _ _ (ne_eqb (48 + one) 39 (omega arith)) (ne_eqb (48 + one) 92 (omega arith))) ∙ cond-true _ _ _ (octal_digit one (omega arith)) ∙ ap (λ d. behind_digit d word) (digit_alone one) in
    let second : reads_on (behind_digit one word) (48 + two) ≡ behind_digits (8 * one + two) word =
    cond-true _ _ _ (octal_digit two (omega arith)) ∙ ap (λ d. behind_digits (8 * one + d) word) (digit_alone two) in
    let third : reads_on (behind_digits (8 * one + two) word) (48 + three) ≡ in_dollar_quotes (word ++ b ∷ []) =
    cond-true _ _ _ (octal_digit three (omega arith)) ∙ ap (λ d. in_dollar_quotes (word ++ (8 * (8 * one + two) + d) ∷ [])) (digit_alone three) ∙ ap (λ d. in_dollar_quotes (word ++ d ∷ [])) value in
    ap (λ r. reads_on (reads_on r (48 + two)) (48 + three)) first ∙ ap (λ r. reads_on r (48 + three)) second ∙ third

octals_read : (bs word : List ℕ) → All IsByte bs → fold reads_on (in_dollar_quotes word) (flat_map octal bs) ≡ in_dollar_quotes (word ++ bs)
octals_read [] word small = ap in_dollar_quotes (sym (append-nil word))
octals_read (b ∷ bs) word small =
    fold-append reads_on (in_dollar_quotes word) (octal b) (flat_map octal bs) ∙ ap (λ r. fold reads_on r (flat_map octal bs)) (octal_read word b (All-head IsByte b bs small))
    ∙ octals_read bs (word ++ b ∷ []) (All-tail IsByte b bs small) ∙ ap in_dollar_quotes (append_assoc word (b ∷ []) bs)

abbrev Plain : ℕ → Type 0
Plain b = (b ≢ 39) × (b ≢ 92)

dollar_step : (word : List ℕ) (b : ℕ) → Plain b → reads_on (in_dollar_quotes word) b ≡ in_dollar_quotes (word ++ b ∷ [])
dollar_step word b other = cond-false _ _ _ (ne_eqb b 39 other.0) ∙ cond-false _ _ _ (ne_eqb b 92 other.1)

-- a quote or a backslash behind a backslash
backslash_read : (word : List ℕ) (c : ℕ) → (c == 39 || c == 92) ≡ true → c < 128 → fold reads_on (in_dollar_quotes word) (92 ∷ encode c) ≡ in_dollar_quotes (word ++ encode c)
backslash_read word c e low =
    ap (λ bs. fold reads_on (in_escape word) bs) (encode_ascii c low) ∙ cond-true _ _ _ e ∙ ap (λ bs. in_dollar_quotes (word ++ bs)) (sym (encode_ascii c low))

low_mark : (c : ℕ) → (c == 39 || c == 92) ≡ true → c < 128
low_mark c e = ⊎_elim (λ h. let is = eqb-true c 39 h in omega arith) (λ h. let is = eqb-true c 92 h in omega arith) (or_cases (c == 39) (c == 92) e)

escaped_char_read : (word : List ℕ) (c : ℕ) → fold reads_on (in_dollar_quotes word) (escaped_char c) ≡ in_dollar_quotes (word ++ encode c)
escaped_char_read word c =
    let Read : List ℕ → Type 0 = λ s. fold reads_on (in_dollar_quotes word) s ≡ in_dollar_quotes (word ++ encode c) in
    cond_both (is_unseen_in c) _ _ Read
    (λ unseen. octals_read (encode c) word (small_bytes c (unseen_small c unseen)))
    (λ _. cond_both (c == 39 || c == 92) _ _ Read
    (λ e. backslash_read word c e (low_mark c e))
    (λ e.
    let (quote, backslash) = or_parts (c == 39) (c == 92) e in
    themselves in_dollar_quotes Plain dollar_step (encode c) word (other_bytes Plain c (eqb-false c 39 quote, eqb-false c 92 backslash) (λ b high. (omega arith, omega arith)))))

-- ---- the word

-- between two marks
between : (at : List ℕ → Reading) (text word : List ℕ) → fold reads_on (at []) text ≡ at word → reads_on (at word) 39 ≡ bare word → fold reads_on (at []) (text ++ 39 ∷ []) ≡ bare word
between at text word read end = fold-append reads_on (at []) text (39 ∷ []) ∙ ap (λ r. reads_on r 39) read ∙ end

pub shell_reads : (word : List ℕ) → IsUtf8 word → read_by_shell (quoted word) ≡ bare word
shell_reads word utf8 =
    let Read : List ℕ → Type 0 = λ s. read_by_shell s ≡ bare word in
    let same = encodes-chars word utf8 in
    cond_both (is_bare_word_in word) _ _ Read
    (λ e.
    let (front, _) = and_parts _ _ e in
    let (_, all) = and_parts _ _ front in
    bare_read word [] all)
    (λ _. cond_both (list_any is_unseen_in (chars word)) _ _ Read
    (λ _. between in_dollar_quotes (flat_map escaped_char (chars word)) word (each_char in_dollar_quotes escaped_char escaped_char_read (chars word) [] ∙ ap in_dollar_quotes same) refl)
    (λ _. between in_quotes (flat_map quoted_char (chars word)) word (each_char in_quotes quoted_char quoted_char_read (chars word) [] ∙ ap in_quotes same) refl))

-- it has some bytes
pub some_quoted : (word : List ℕ) → 0 < length (quoted word)
some_quoted word =
    cond_both (is_bare_word_in word) _ _ (λ s. 0 < length s)
    (λ e.
    let (front, _) = and_parts _ _ e in
    let (some, _) = and_parts _ _ front in
    let least = leb-true 1 (length word) some in
    omega arith)
    (λ _. cond_both (list_any is_unseen_in (chars word)) _ _ (λ s. 0 < length s) (λ _. omega arith) (λ _. omega arith))
