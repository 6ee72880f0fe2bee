-- What is left of a text is seen.
use Rattle.std.proofs.Common.{◌≡◌, ℕ, ◌+◌, ◌/◌, ◌%◌, ◌<◌, ◌≤◌, true, false, ltb, ◌==◌, ◌||◌, List, [], ◌∷◌, All, codes, subst, arith, append-nil}
use Rattle.std.specs.Char.{digit_char}
use Rattle.std.specs.List.{flat_map, list_any, list_all}
use Rattle.std.specs.Str.{chars, NoCharPasses}
use Rattle.std.proofs.lemmas.Bool.{cond_both, ltb-true, or_parts, and_parts}
use Rattle.std.proofs.lemmas.List.Elements.{All-head, All-tail}
use Rattle.std.proofs.lemmas.Str.{encode_ascii, NoCharPasses-nil, NoCharPasses-append}
use lib.Utf8.{encode}
use Rattle.bf_quoted.specs.Seen.{is_unseen_in}
use Rattle.bf_quoted.specs.Words.{is_bare_byte_in, is_bare_word_in, quoted_char, octal, escaped_char, quoted}
use Rattle.bf_quoted.specs.Values.{escape, escape_of, shown_char, shown}
use Rattle.bf_quoted.proofs.CharFacts.{IsByte, small_bytes, unseen_small, seen_ascii, bare_small}

abbrev AllSeen : List ℕ → Type 0
AllSeen bs = NoCharPasses is_unseen_in bs

seen_char : (c : ℕ) → is_unseen_in c ≡ false → AllSeen (encode c)
seen_char c seen = (c ∷ [], append-nil (encode c), (seen, tt))

-- a byte of ASCII in front
seen_cons : (b : ℕ) (bs : List ℕ) → 32 ≤ b → b < 127 → AllSeen bs → AllSeen (b ∷ bs)
seen_cons b bs low high rest =
    NoCharPasses-append is_unseen_in (b ∷ []) bs (subst AllSeen (encode_ascii b (omega arith)) (seen_char b (seen_ascii b low high))) rest

seen_nil : AllSeen []
seen_nil = NoCharPasses-nil is_unseen_in

seen_mark : AllSeen (codes "'")
seen_mark = seen_cons 39 [] (omega arith) (omega arith) seen_nil

seen_bare : (bs : List ℕ) → list_all is_bare_byte_in bs ≡ true → AllSeen bs
seen_bare [] e = seen_nil
seen_bare (b ∷ bs) e =
    let (this, others) = and_parts (is_bare_byte_in b) (list_all is_bare_byte_in bs) e in
    let (low, high) = bare_small b this in
    seen_cons b bs (omega arith) high (seen_bare bs others)

seen_quoted_char : (c : ℕ) → is_unseen_in c ≡ false → AllSeen (quoted_char c)
seen_quoted_char c seen =
    cond_both (c == 39) _ _ AllSeen
    (λ _. seen_cons 39 _ (omega arith) (omega arith) (seen_cons 92 _ (omega arith) (omega arith) (seen_cons 39 _ (omega arith) (omega arith) (seen_cons 39 _ (omega arith) (omega arith) seen_nil))))
    (λ _. seen_char c seen)

seen_in_quotes : (cs : List ℕ) → list_any is_unseen_in cs ≡ false → AllSeen (flat_map quoted_char cs)
seen_in_quotes [] e = seen_nil
seen_in_quotes (c ∷ cs) e =
    let (this, others) = or_parts (is_unseen_in c) (list_any is_unseen_in cs) e in
    NoCharPasses-append is_unseen_in (quoted_char c) (flat_map quoted_char cs) (seen_quoted_char c this) (seen_in_quotes cs others)

seen_octal : (b : ℕ) → IsByte b → AllSeen (octal b)
seen_octal b small =
    seen_cons 92 _ (omega arith) (omega arith) (seen_cons (48 + b / 64) _ (omega arith) (omega arith) (seen_cons (48 + b / 8 % 8) _ (omega arith) (omega arith) (seen_cons (48 + b % 8) [] (omega arith) (omega arith) seen_nil)))

seen_octals : (bs : List ℕ) → All IsByte bs → AllSeen (flat_map octal bs)
seen_octals [] small = seen_nil
seen_octals (b ∷ bs) small =
    NoCharPasses-append is_unseen_in (octal b) (flat_map octal bs) (seen_octal b (All-head IsByte b bs small)) (seen_octals bs (All-tail IsByte b bs small))

seen_escaped_char : (c : ℕ) → AllSeen (escaped_char c)
seen_escaped_char c =
    cond_both (is_unseen_in c) _ _ AllSeen
    (λ unseen. seen_octals (encode c) (small_bytes c (unseen_small c unseen)))
    (λ seen. cond_both (c == 39 || c == 92) _ _ AllSeen (λ _. seen_cons 92 (encode c) (omega arith) (omega arith) (seen_char c seen)) (λ _. seen_char c seen))

-- what is seen of each character is seen of all
seen_all : (f : ℕ → List ℕ) → ((c : ℕ) → AllSeen (f c)) → (cs : List ℕ) → AllSeen (flat_map f cs)
seen_all f each [] = seen_nil
seen_all f each (c ∷ cs) = NoCharPasses-append is_unseen_in (f c) (flat_map f cs) (each c) (seen_all f each cs)

pub seen_word : (word : List ℕ) → AllSeen (quoted word)
seen_word word =
    cond_both (is_bare_word_in word) _ _ AllSeen
    (λ e.
    let (front, _) = and_parts _ _ e in
    let (_, all) = and_parts _ _ front in
    seen_bare word all)
    (λ _. cond_both (list_any is_unseen_in (chars word)) _ _ AllSeen
    (λ _. seen_cons 36 _ (omega arith) (omega arith) (seen_cons 39 _ (omega arith) (omega arith) (NoCharPasses-append is_unseen_in (flat_map escaped_char (chars word)) (codes "'") (seen_all escaped_char seen_escaped_char (chars word)) seen_mark)))
    (λ e. seen_cons 39 _ (omega arith) (omega arith) (NoCharPasses-append is_unseen_in (flat_map quoted_char (chars word)) (codes "'") (seen_in_quotes (chars word) e) seen_mark)))

seen_digit : (d : ℕ) (bs : List ℕ) → d < 16 → AllSeen bs → AllSeen (digit_char d ∷ bs)
seen_digit d bs small rest =
    cond_both (ltb d 10) (48 + d) (87 + d) (λ b. AllSeen (b ∷ bs)) (λ _. seen_cons (48 + d) bs (omega arith) (omega arith) rest) (λ _. seen_cons (87 + d) bs (omega arith) (omega arith) rest)

seen_escape : (c : ℕ) → c < 65_536 → AllSeen (escape c)
seen_escape c small =
    seen_cons 92 _ (omega arith) (omega arith) (seen_cons 117 _ (omega arith) (omega arith) (seen_digit (c / 4_096) _ (omega arith) (seen_digit (c / 256 % 16) _ (omega arith) (seen_digit (c / 16 % 16) _ (omega arith) (seen_digit (c % 16) [] (omega arith) seen_nil)))))

seen_escape_of : (c : ℕ) → c < 1_114_112 → AllSeen (escape_of c)
seen_escape_of c small =
    cond_both (ltb c 65_536) _ _ AllSeen
    (λ e. seen_escape c (ltb-true c 65_536 e))
    (λ _. NoCharPasses-append is_unseen_in (escape (0xD7C0 + c / 1_024)) (escape (0xDC00 + c % 1_024)) (seen_escape _ (omega arith)) (seen_escape _ (omega arith)))

seen_shown_char : (c : ℕ) → AllSeen (shown_char c)
seen_shown_char c =
    cond_both (is_unseen_in c) _ _ AllSeen (λ unseen. seen_escape_of c (unseen_small c unseen)) (λ seen. seen_char c seen)

pub seen_value : (json : List ℕ) → AllSeen (shown json)
seen_value json = seen_all shown_char seen_shown_char (chars json)
