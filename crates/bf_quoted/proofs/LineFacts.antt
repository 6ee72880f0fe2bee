-- Lines of words.
use Rattle.std.proofs.Common.{◌≡◌, ◌≢◌, ℕ, zero, suc, ◌+◌, ◌<◌, List, [], ◌∷◌, ◌++◌, All, length, map, take, get_or, fold, Option, Some, None, refl, sym, ap, ◌∙◌, subst, arith, append_assoc, append-nil}
use Rattle.std.specs.List.{join_with_byte}
use Rattle.std.specs.Str.{IsUtf8}
use Rattle.std.proofs.lemmas.Bool.{cond-false, ne_eqb}
use Rattle.std.proofs.lemmas.List.{take_more, map_push}
use Rattle.std.proofs.lemmas.List.Elements.{All-head, All-tail}
use Rattle.std.proofs.lemmas.List.Sums.{fold-append}
use Rattle.bf_quoted.specs.Words.{quoted}
use Rattle.bf_quoted.specs.Shell.{Reading, bare, behind_backslash, behind_dollar, in_quotes, in_dollar_quotes, in_escape, behind_digit, behind_digits, not_read, reads_on, read_by_shell}
use Rattle.bf_quoted.specs.Lines.{line_of, ReadLine, reads_line_on, words_at_end, words_by_shell}
use Rattle.bf_quoted.specs.inner.Lines.{gap}
use Rattle.bf_quoted.proofs.ReadFacts.{shell_reads, some_quoted}

-- ---- one word more

join_more : (x : List ℕ) (xs : List (List ℕ)) (y : List ℕ) → join_with_byte 32 ((x ∷ xs) ++ y ∷ []) ≡ join_with_byte 32 (x ∷ xs) ++ (32 ∷ y)
join_more x [] y = refl
join_more x (z ∷ zs) y = ap (λ s. x ++ (32 ∷ s)) (join_more z zs y) ∙ sym (append_assoc x (32 ∷ join_with_byte 32 (z ∷ zs)) (32 ∷ y))

line_push : (words : List (List ℕ)) (word : List ℕ) → 0 < length words → line_of (words ++ word ∷ []) ≡ line_of words ++ (32 ∷ quoted word)
line_push [] word some = absurd (omega arith)
line_push (first ∷ words) word some = ap (join_with_byte 32) (map_push quoted (first ∷ words) word) ∙ join_more (quoted first) (map quoted words) (quoted word)

pub line_more : (before : List ℕ) (words : List (List ℕ)) (i : ℕ) (word : List ℕ) → i < length words → word ≡ get_or words i word → ((before ++ line_of (take i words)) ++ gap i) ++ quoted word ≡ before ++ line_of (take (i + 1) words)
line_more before [] i word inside is = absurd (omega arith)
line_more before (first ∷ words) zero word inside is =
    ap (λ s. s ++ quoted word) (append-nil (before ++ []) ∙ append-nil before) ∙ ap (λ w. before ++ quoted w) is
line_more before (first ∷ words) (suc k) word inside is =
    let all = first ∷ words in
    let front = take (suc k) all in
    let more : take (suc k + 1) all ≡ front ++ word ∷ [] = take_more all (suc k) word inside ∙ ap (λ w. front ++ w ∷ []) (sym is) in
    let space : gap (suc k) ≡ 32 ∷ [] = cond-false _ _ _ (ne_eqb (suc k) 0 (omega arith)) in
    ap (λ s. ((before ++ line_of front) ++ s) ++ quoted word) space ∙ append_assoc (before ++ line_of front) (32 ∷ []) (quoted word) ∙ append_assoc before (line_of front) (32 ∷ quoted word)
    ∙ ap (λ s. before ++ s) (sym (line_push front word (omega arith)) ∙ ap line_of (sym more))

-- ---- what a shell reads

never_read : (bs : List ℕ) → fold reads_on not_read bs ≡ not_read
never_read [] = refl
never_read (b ∷ bs) = never_read bs

abbrev at_word : List (List ℕ) → Reading → ReadLine
at_word words at = record { words = words; next = Some at }

-- no space stands outside of quotes in what is read as one word
not_a_space : (bs word : List ℕ) (word' : List ℕ) (b : ℕ) → fold reads_on (reads_on (bare word) b) bs ≡ bare word' → b ≢ 32
not_a_space bs word word' b read is =
    let none : not_read ≡ bare word' = sym (never_read bs) ∙ subst (λ n. fold reads_on (reads_on (bare word) n) bs ≡ bare word') is read in
    absurd (cc none)

in_word : (words : List (List ℕ)) (bs word : List ℕ) (at : Reading) → fold reads_on at bs ≡ bare word → fold reads_line_on (at_word words at) bs ≡ at_word words (bare word)
in_word words [] word at read = ap (at_word words) read
in_word words (b ∷ bs) word (bare before) read =
    ap (λ l. fold reads_line_on l bs) (cond-false _ _ _ (ne_eqb b 32 (not_a_space bs before word b read))) ∙ in_word words bs word (reads_on (bare before) b) read
in_word words (b ∷ bs) word (behind_backslash before) read = in_word words bs word (reads_on (behind_backslash before) b) read
in_word words (b ∷ bs) word (behind_dollar before) read = in_word words bs word (reads_on (behind_dollar before) b) read
in_word words (b ∷ bs) word (in_quotes before) read = in_word words bs word (reads_on (in_quotes before) b) read
in_word words (b ∷ bs) word (in_dollar_quotes before) read = in_word words bs word (reads_on (in_dollar_quotes before) b) read
in_word words (b ∷ bs) word (in_escape before) read = in_word words bs word (reads_on (in_escape before) b) read
in_word words (b ∷ bs) word (behind_digit value before) read = in_word words bs word (reads_on (behind_digit value before) b) read
in_word words (b ∷ bs) word (behind_digits value before) read = in_word words bs word (reads_on (behind_digits value before) b) read
in_word words (b ∷ bs) word not_read read = in_word words bs word (reads_on not_read b) read

-- a text that is some bytes, and is read as one word
whole_word : (words : List (List ℕ)) (bs word : List ℕ) → 0 < length bs → read_by_shell bs ≡ bare word → fold reads_line_on (record { words = words; next = None }) bs ≡ at_word words (bare word)
whole_word words [] word some read = absurd (omega arith)
whole_word words (b ∷ bs) word some read =
    ap (λ l. fold reads_line_on l bs) (cond-false _ _ _ (ne_eqb b 32 (not_a_space bs [] word b read))) ∙ in_word words bs word (reads_on (bare []) b) read

abbrev words_of : ReadLine → Option (List (List ℕ))
words_of line = words_at_end line.words line.next

begun : (words : List (List ℕ)) (word : List ℕ) → IsUtf8 word → fold reads_line_on (record { words = words; next = None }) (quoted word) ≡ at_word words (bare word)
begun words word utf8 = whole_word words (quoted word) word (some_quoted word) (shell_reads word utf8)

line_read : (before : List (List ℕ)) (word : List ℕ) (rest : List (List ℕ)) → All IsUtf8 (word ∷ rest) → words_of (fold reads_line_on (record { words = before; next = None }) (line_of (word ∷ rest))) ≡ Some (before ++ word ∷ rest)
line_read before word [] utf8 = ap words_of (begun before word (All-head IsUtf8 word [] utf8))
line_read before word (next ∷ rest) utf8 =
    let others = line_of (next ∷ rest) in
    let first = begun before word (All-head IsUtf8 word (next ∷ rest) utf8) in
    ap words_of (fold-append reads_line_on (record { words = before; next = None }) (quoted word) (32 ∷ others) ∙ ap (λ (l : ReadLine). fold reads_line_on l (32 ∷ others)) first)
    ∙ line_read (before ++ word ∷ []) next rest (All-tail IsUtf8 word (next ∷ rest) utf8) ∙ ap Some (append_assoc before (word ∷ []) (next ∷ rest))

pub shell_line : (words : List (List ℕ)) → All IsUtf8 words → words_by_shell (line_of words) ≡ Some words
shell_line [] utf8 = refl
shell_line (word ∷ rest) utf8 = line_read [] word rest utf8
