-- Tables of entries, read back.
use Rattle.std.proofs.Common.{◌≡◌, ℕ, zero, suc, ◌+◌, ◌<◌, ◌≤◌, ◌^◌, ◌&&◌, Bool, true, false, cond, List, [], ◌∷◌, ◌++◌, Option, Some, None, option_map, option_and_then, ℤ, pos, negsuc, codes, length, drop, if◌then◌else◌, IsUtf8, Ok, refl, sym, ap, ap₂, ◌∙◌, subst, append_assoc, append-nil, arith, lt-ltb}
use Rattle.std.specs.List.{AllByRecursion}
use Rattle.std.proofs.lemmas.Bool.{le-leb}
use Rattle.std.proofs.lemmas.Fmt.{IsAscii-decimal}
use Rattle.std.proofs.lemmas.Str.{IsUtf8-nil, IsUtf8-append, IsUtf8-from_ascii, is_utf8-from_IsUtf8}
use Rattle.itoa.proofs.Decimal.{IsAscii-signed_decimal}
use Rattle.json.specs.Token.{Token}
use Rattle.json.specs.Lex.{Lexeme, token, comma, colon, string_token, lex, between, Place, fresh, after_value, begins_colon, punctuate, tokens}
use Rattle.json.specs.Word.{ends_word}
use Rattle.json.specs.Print.{escape, quoted, IsNumber}
use Rattle.json.specs.Json as json
use Rattle.json.specs.Tree as tree
use Rattle.json.proofs.Printed.Strings.{content-escape, lex-escape}
use Rattle.json.proofs.Printed.Numbers.{lex-number}
use Rattle.json.proofs.Printed.Decimals.{IsNumber-decimal, IsNumber-signed_decimal}
use Rattle.json.proofs.Printed.Trees.{value-json_tokens}
use Rattle.json.proofs.Printed.Utf8.{IsUtf8-are_ascii, IsUtf8-quoted}
use Rattle.serde_json.specs.Data.{Num, unsigned, negative, float, Data, null, boolean, number, string, array, object, Items, no_items, item, Members, no_members, member, put}
use Rattle.serde_json.specs.Find.{as_str, as_array, get}
use Rattle.serde_json.specs.Read.{read, max_depth, of_json, of_items, of_members}
use Rattle.serde_json.specs.Written.{number_text, outline, items_outline, members_outline, comma_if, compact_text, members_text}
use Rattle.serde_json.proofs.Numbers.{number_of-decimal, number_of-negative}
use Rattle.bf_value.specs.Line.{last_line_of}
use Rattle.bf_moment.specs.Long.{is_long}
use Rattle.bf_table.specs.declared.table.TableEntry.{TableEntry}
use Rattle.bf_table.specs.Tables.{entries_from, entries_of, entry_of, entry_with, if_there, number_of, date_in, status_in, status_from, line_in, json_of_file, longest_table, table_in, table_with, with_first}
use Rattle.bf_answers.specs.Answers.{entry_at}
use Rattle.bf_answers.specs.inner.Answers.{number_of as index_number}
use Rattle.bf_answers.specs.inner.Pieces.{named_members}
use Rattle.bf_answers.specs.inner.Tellable.{IsLow, IsTellable}
use Rattle.bf_answers.specs.TableText.{entry_lines, entry_line, entry_members, table_text, whole}

-- ---- numbers and texts

abbrev FlatNumber : Num → Type 0
FlatNumber (unsigned n) = n < 2 ^ 63
FlatNumber (negative z) = z ≡ negsuc 0
FlatNumber (float x) = ⊥

abbrev Flat : Data → Type 0
Flat null = ⊥
Flat (boolean b) = ⊥
Flat (number n) = FlatNumber n
Flat (string s) = IsUtf8 s
Flat (array ds) = ⊥
Flat (object ms) = ⊥

abbrev AllFlat : Members → Type 0
AllFlat no_members = Unit {0}
AllFlat (member k d ms) = IsUtf8 k × Flat d × AllFlat ms

abbrev AreFlat : List TableEntry → Type 0
AreFlat es = AllByRecursion (λ e. AllFlat (entry_members e)) es

number_is : (n : Num) → FlatNumber n → IsNumber (number_text n)
number_is (unsigned n) h = IsNumber-decimal n (omega arith)
number_is (negative z) h = subst (λ (z : ℤ). IsNumber (number_text (negative z))) (sym h) (IsNumber-signed_decimal (negsuc 0) (omega arith))
number_is (float x) h = absurd h

-- ---- lexemes

flat_lexemes : Data → List Lexeme
flat_lexemes null = []
flat_lexemes (boolean b) = []
flat_lexemes (number n) = token (Token.number (number_text n)) ∷ []
flat_lexemes (string s) = token (Token.string s) ∷ []
flat_lexemes (array ds) = []
flat_lexemes (object ms) = []

lex_quoted : (s r : List ℕ) → lex between (quoted s ++ r) ≡ token (Token.string s) ∷ lex between r
unfolding lex
lex_quoted s r =
    let e = append_assoc (escape s) (34 ∷ []) r in
    ap (λ l. lex between (34 ∷ l)) e ∙ ap₂ (λ o l. token (string_token o) ∷ l) (content-escape s r) (lex-escape s r)

lex_flat : (d : Data) (r : List ℕ) → Flat d → ends_word r ≡ true → lex between (compact_text d ++ r) ≡ flat_lexemes d ++ lex between r
unfolding flat_lexemes
lex_flat null r h ended = absurd h
lex_flat (boolean b) r h ended = absurd h
lex_flat (number n) r h ended = lex-number (number_text n) r (number_is n h) ended
lex_flat (string s) r h ended = lex_quoted s r
lex_flat (array ds) r h ended = absurd h
lex_flat (object ms) r h ended = absurd h

member_lexemes : Bool → Members → List Lexeme
member_lexemes later no_members = token Token.end_object ∷ []
member_lexemes later (member k d ms) = cond later (comma ∷ []) [] ++ (token (Token.string k) ∷ colon ∷ (flat_lexemes d ++ member_lexemes true ms))

members_end : (ms : Members) (r : List ℕ) → ends_word (members_text true ms ++ r) ≡ true
members_end no_members r = refl
members_end (member k d ms) r = refl

lex_member : (k : List ℕ) (d : Data) (ms : Members) (r : List ℕ) (ls : List Lexeme) → Flat d → lex between (members_text true ms ++ r) ≡ ls
    → lex between ((quoted k ++ 58 ∷ (compact_text d ++ members_text true ms)) ++ r) ≡ token (Token.string k) ∷ colon ∷ (flat_lexemes d ++ ls)
unfolding lex
lex_member k d ms r ls h e =
    ap (lex between) (append_assoc (quoted k) (58 ∷ (compact_text d ++ members_text true ms)) r)
    ∙ lex_quoted k (58 ∷ ((compact_text d ++ members_text true ms) ++ r))
    ∙ ap (λ t. token (Token.string k) ∷ colon ∷ lex between t) (append_assoc (compact_text d) (members_text true ms) r)
    ∙ ap (λ l. token (Token.string k) ∷ colon ∷ l) (lex_flat d (members_text true ms ++ r) h (members_end ms r) ∙ ap (λ l. flat_lexemes d ++ l) e)

lex_members : (later : Bool) (ms : Members) (r : List ℕ) → AllFlat ms → lex between (members_text later ms ++ r) ≡ member_lexemes later ms ++ lex between r
unfolding lex member_lexemes
lex_members true no_members r h = refl
lex_members false no_members r h = refl
lex_members true (member k d ms) r h =
    ap (λ l. comma ∷ l) (lex_member k d ms r _ h.1 (lex_members true ms r h.2))
    ∙ ap (λ l. comma ∷ token (Token.string k) ∷ colon ∷ l) (sym (append_assoc (flat_lexemes d) (member_lexemes true ms) (lex between r)))
lex_members false (member k d ms) r h =
    lex_member k d ms r _ h.1 (lex_members true ms r h.2)
    ∙ ap (λ l. token (Token.string k) ∷ colon ∷ l) (sym (append_assoc (flat_lexemes d) (member_lexemes true ms) (lex between r)))

rest_lexemes : List TableEntry → List Lexeme
rest_lexemes [] = token Token.end_array ∷ []
rest_lexemes (e ∷ es) = comma ∷ token Token.begin_object ∷ (member_lexemes false (entry_members e) ++ rest_lexemes es)

table_lexemes : List TableEntry → List Lexeme
table_lexemes [] = token Token.begin_array ∷ token Token.end_array ∷ []
table_lexemes (e ∷ es) = token Token.begin_array ∷ token Token.begin_object ∷ (member_lexemes false (entry_members e) ++ rest_lexemes es)

abbrev end : List ℕ
end = codes "\n]\n"

lines_on : (e : TableEntry) (es : List TableEntry) → entry_lines (e ∷ es) ++ end ≡ 44 ∷ 10 ∷ 123 ∷ (members_text false (entry_members e) ++ (entry_lines es ++ end))
lines_on e es = append_assoc (entry_line e) (entry_lines es) end

lex_rest : (es : List TableEntry) → AreFlat es → lex between (entry_lines es ++ end) ≡ rest_lexemes es
unfolding lex rest_lexemes
lex_rest [] h = refl
lex_rest (e ∷ es) h =
    ap (lex between) (lines_on e es)
    ∙ ap (λ l. comma ∷ token Token.begin_object ∷ l) (lex_members false (entry_members e) (entry_lines es ++ end) h.0 ∙ ap (λ l. member_lexemes false (entry_members e) ++ l) (lex_rest es h.1))

lex_table : (es : List TableEntry) → AreFlat es → lex between (table_text es) ≡ table_lexemes es
unfolding lex table_lexemes
lex_table [] h = refl
lex_table (e ∷ es) h =
    ap (λ t. lex between (91 ∷ drop 1 t)) (lines_on e es)
    ∙ ap (λ l. token Token.begin_array ∷ token Token.begin_object ∷ l) (lex_members false (entry_members e) (entry_lines es ++ end) h.0 ∙ ap (λ l. member_lexemes false (entry_members e) ++ l) (lex_rest es h.1))

-- ---- tokens

abbrev place : Bool → Place
place later = cond later after_value fresh

flat_placed : (d : Data) (ls : List Lexeme) → Flat d → begins_colon ls ≡ false → punctuate fresh (flat_lexemes d ++ ls) ≡ tree.json_tokens (outline d) ++ punctuate after_value ls
unfolding punctuate flat_lexemes
flat_placed null ls h next = absurd h
flat_placed (boolean b) ls h next = absurd h
flat_placed (number n) ls h next = refl
flat_placed (string s) ls h next = rw next refl
flat_placed (array ds) ls h next = absurd h
flat_placed (object ms) ls h next = absurd h

no_colon : (ms : Members) (ls : List Lexeme) → begins_colon (member_lexemes true ms ++ ls) ≡ false
unfolding member_lexemes
no_colon no_members ls = refl
no_colon (member k d ms) ls = refl

member_placed : (k : List ℕ) (d : Data) (ms : Members) (ls : List Lexeme) → Flat d → punctuate after_value (member_lexemes true ms ++ ls) ≡ tree.members_tokens (members_outline ms) ++ punctuate after_value ls
    → Token.key k ∷ punctuate fresh ((flat_lexemes d ++ member_lexemes true ms) ++ ls) ≡ tree.members_tokens (members_outline (member k d ms)) ++ punctuate after_value ls
member_placed k d ms ls h e =
    ap (λ t. Token.key k ∷ t)
    (ap (punctuate fresh) (append_assoc (flat_lexemes d) (member_lexemes true ms) ls) ∙ flat_placed d (member_lexemes true ms ++ ls) h (no_colon ms ls) ∙ ap (λ t. tree.json_tokens (outline d) ++ t) e
    ∙ sym (append_assoc (tree.json_tokens (outline d)) (tree.members_tokens (members_outline ms)) (punctuate after_value ls)))

members_placed : (later : Bool) (ms : Members) (ls : List Lexeme) → AllFlat ms → punctuate (place later) (member_lexemes later ms ++ ls) ≡ tree.members_tokens (members_outline ms) ++ punctuate after_value ls
unfolding punctuate member_lexemes
members_placed true no_members ls h = refl
members_placed false no_members ls h = refl
members_placed true (member k d ms) ls h = member_placed k d ms ls h.1 (members_placed true ms ls h.2)
members_placed false (member k d ms) ls h = member_placed k d ms ls h.1 (members_placed true ms ls h.2)

entry_items : List TableEntry → Items
entry_items [] = no_items
entry_items (e ∷ es) = item (object (entry_members e)) (entry_items es)

rest_placed : (es : List TableEntry) → AreFlat es → punctuate after_value (rest_lexemes es) ≡ tree.items_tokens (items_outline (entry_items es))
unfolding punctuate rest_lexemes entry_items
rest_placed [] h = refl
rest_placed (e ∷ es) h = ap (λ t. Token.begin_object ∷ t) (members_placed false (entry_members e) (rest_lexemes es) h.0 ∙ ap (λ t. tree.members_tokens (members_outline (entry_members e)) ++ t) (rest_placed es h.1))

table_placed : (es : List TableEntry) → AreFlat es → punctuate fresh (table_lexemes es) ≡ tree.json_tokens (outline (array (entry_items es)))
unfolding punctuate table_lexemes entry_items
table_placed [] h = refl
table_placed (e ∷ es) h = ap (λ t. Token.begin_array ∷ Token.begin_object ∷ t) (members_placed false (entry_members e) (rest_lexemes es) h.0 ∙ ap (λ t. tree.members_tokens (members_outline (entry_members e)) ++ t) (rest_placed es h.1))

-- ---- data

put_all : Members → Members → Members
put_all no_members found = found
put_all (member k d ms) found = put_all ms (put k d found)

read_items : List TableEntry → Items
read_items [] = no_items
read_items (e ∷ es) = item (object (put_all (entry_members e) no_members)) (read_items es)

of_number : (n : Num) → FlatNumber n → of_json (json.number (number_text n)) ≡ Some (number n)
of_number (unsigned n) h = ap (option_map number) (number_of-decimal n (omega arith))
of_number (negative z) h = subst (λ (z : ℤ). of_json (json.number (number_text (negative z))) ≡ Some (number (negative z))) (sym h) (ap (option_map number) (number_of-negative 0 (omega arith)))
of_number (float x) h = absurd h

of_flat : (d : Data) → Flat d → of_json (outline d) ≡ Some d
of_flat null h = absurd h
of_flat (boolean b) h = absurd h
of_flat (number n) h = of_number n h
of_flat (string s) h = refl
of_flat (array ds) h = absurd h
of_flat (object ms) h = absurd h

of_flats : (ms found : Members) → AllFlat ms → of_members (members_outline ms) found ≡ Some (put_all ms found)
unfolding put_all
of_flats no_members found h = refl
of_flats (member k d ms) found h = rw (of_flat d h.1) (of_flats ms (put k d found) h.2)

of_entries : (es : List TableEntry) → AreFlat es → of_items (items_outline (entry_items es)) ≡ Some (read_items es)
unfolding entry_items read_items
of_entries [] h = refl
of_entries (e ∷ es) h = rw (of_flats (entry_members e) no_members h.0) (ap (option_map (item (object (put_all (entry_members e) no_members)))) (of_entries es h.1))

flat_depth : (d : Data) → Flat d → tree.depth (outline d) ≡ 0
flat_depth null h = refl
flat_depth (boolean b) h = refl
flat_depth (number n) h = refl
flat_depth (string s) h = refl
flat_depth (array ds) h = absurd h
flat_depth (object ms) h = absurd h

members_depth : (ms : Members) → AllFlat ms → tree.members_depth (members_outline ms) ≡ 0
members_depth no_members h = refl
members_depth (member k d ms) h = omega (arith, flat_depth d h.1, members_depth ms h.2)

entries_depth : (es : List TableEntry) → AreFlat es → tree.items_depth (items_outline (entry_items es)) ≤ 1
unfolding entry_items
entries_depth [] h = omega arith
entries_depth (e ∷ es) h = omega (arith, members_depth (entry_members e) h.0, entries_depth es h.1)

whole_json : Option (json.Json × List Token) → Option Data
whole_json o = option_and_then of_json (option_and_then (λ p. json.if_last p.0 p.1) o)

table_read : (es : List TableEntry) → AreFlat es → read (table_text es) ≡ Some (array (read_items es))
unfolding whole_json
table_read es h =
    let j = outline (array (entry_items es)) in
    let lexed : tokens (table_text es) ≡ tree.json_tokens j = ap (punctuate fresh) (lex_table es h) ∙ table_placed es h in
    ap whole_json (ap (json.value max_depth) (lexed ∙ sym (append-nil (tree.json_tokens j))) ∙ value-json_tokens j max_depth [] (omega (arith, entries_depth es h)))
    ∙ ap (option_map array) (of_entries es h)

-- ---- entries

index_read : (index : Option ℕ) → IsLow index → number_of (whole (index_number index)) ≡ Some (index_number index)
index_read None low = refl
index_read (Some n) low = rw (lt-ltb n 9223372036854775808 (omega arith)) refl

attempt_read : (n : ℕ) → n < 2 ^ 63 → number_of (whole (pos n)) ≡ Some (pos n)
attempt_read n low = rw (lt-ltb n 9223372036854775808 (omega arith)) refl

run_read : (run : List ℕ) → is_long run ≡ true → date_in (string run) ≡ Some run
run_read run long = ap (λ b. if b then Some run else None) long

status_read : (n : ℕ) → n ≤ 255 → status_in (Some (number (unsigned n))) ≡ Some n
status_read n low = ap (option_and_then status_from) (attempt_read n (omega arith)) ∙ ap (λ b. if b then Some n else None) (le-leb n 255 low)

with_parts : (d : Data) (task run : List ℕ) (index attempt : ℤ) (status : ℕ) (line : List ℕ) → if_there as_str (get (codes "task") d) ≡ Some (Some task) → if_there number_of (get (codes "index") d) ≡ Some (Some index)
    → if_there date_in (get (codes "run") d) ≡ Some (Some run) → if_there number_of (get (codes "try") d) ≡ Some (Some attempt) → status_in (get (codes "status") d) ≡ Some status → line_in (get (codes "out") d) ≡ Some line
    → entry_with d ≡ Some (record { task = Some task; index = Some index; run = Some run; attempt = Some attempt; status = status; line = line })
with_parts d task run index attempt status line a b c e f g = rw (a, b, c, e, f, g) refl

read_data : List ℕ → List ℕ → Option ℕ → ℕ → ℕ → List ℕ → Data
read_data run task index attempt status line = object (put_all (entry_members (entry_at run task (index_number index) attempt status line)) no_members)

entry_read : (e : TableEntry) → IsTellable e → entry_of (object (put_all (entry_members e) no_members)) ≡ Some e
unfolding entry_of put_all read_data
entry_read e t =
    subst (λ (e : TableEntry). entry_of (object (put_all (entry_members e) no_members)) ≡ Some e) (sym t.is) (by t.status t.line t.exit_code t.one_line)
  where
    index : if_there number_of (Some (whole (index_number t.index))) ≡ Some (Some (index_number t.index))
    index = ap (option_map Some) (index_read t.index t.low_index)

    run : if_there date_in (Some (string t.run)) ≡ Some (Some t.run)
    run = ap (option_map Some) (run_read t.run t.moment)

    attempt : if_there number_of (Some (whole (pos t.attempt))) ≡ Some (Some (pos t.attempt))
    attempt = ap (option_map Some) (attempt_read t.attempt t.low_attempt)

    by : (status : ℕ) (line : List ℕ) → status ≤ 255 → last_line_of line ≡ line → entry_of (read_data t.run t.task t.index t.attempt status line) ≡ Some (entry_at t.run t.task (index_number t.index) t.attempt status line)
    by zero [] low one = with_parts (read_data t.run t.task t.index t.attempt 0 []) t.task t.run (index_number t.index) (pos t.attempt) 0 [] refl index run attempt refl refl
    by zero (b ∷ bs) low one = with_parts (read_data t.run t.task t.index t.attempt 0 (b ∷ bs)) t.task t.run (index_number t.index) (pos t.attempt) 0 (b ∷ bs) refl index run attempt refl (ap Some one)
    by (suc n) [] low one = with_parts (read_data t.run t.task t.index t.attempt (suc n) []) t.task t.run (index_number t.index) (pos t.attempt) (suc n) [] refl index run attempt (status_read (suc n) low) refl
    by (suc n) (b ∷ bs) low one = with_parts (read_data t.run t.task t.index t.attempt (suc n) (b ∷ bs)) t.task t.run (index_number t.index) (pos t.attempt) (suc n) (b ∷ bs) refl index run attempt (status_read (suc n) low) (ap Some one)

entries_read : (n : ℕ) (es : List TableEntry) → AllByRecursion IsTellable es → entries_from n (entries_of (read_items es)) ≡ Ok es
unfolding read_items
entries_read n [] h = refl
entries_read n (e ∷ es) h = rw (entry_read e h.0) (ap (with_first e) (entries_read (n + 1) es h.1))

-- ---- each entry is flat

index_flat : (index : Option ℕ) → IsLow index → Flat (whole (index_number index))
index_flat None low = refl
index_flat (Some n) low = low

entry_flat : (e : TableEntry) → IsTellable e → AllFlat (entry_members e)
entry_flat e t = subst (λ (e : TableEntry). AllFlat (entry_members e)) (sym t.is) (by t.status t.line t.exit_code t.out)
  where
    ended : (ms : Members) → AllFlat ms → AllFlat (named_members t.run t.task (index_number t.index) t.attempt ms)
    ended ms h =
        (IsUtf8-are_ascii (codes "task") refl, t.id, (IsUtf8-are_ascii (codes "index") refl, index_flat t.index t.low_index, (IsUtf8-are_ascii (codes "run") refl, t.date, (IsUtf8-are_ascii (codes "try") refl, t.low_attempt, h))))

    by : (status : ℕ) (line : List ℕ) → status ≤ 255 → IsUtf8 line → AllFlat (entry_members (entry_at t.run t.task (index_number t.index) t.attempt status line))
    by zero [] low u = ended no_members tt
    by zero (b ∷ bs) low u = ended (member (codes "out") (string (b ∷ bs)) no_members) (IsUtf8-are_ascii (codes "out") refl, u, tt)
    by (suc n) [] low u = ended (member (codes "status") (number (unsigned (suc n))) no_members) (IsUtf8-are_ascii (codes "status") refl, omega (arith, low), tt)
    by (suc n) (b ∷ bs) low u = ended (member (codes "status") (number (unsigned (suc n))) (member (codes "out") (string (b ∷ bs)) no_members)) (IsUtf8-are_ascii (codes "status") refl, omega (arith, low), (IsUtf8-are_ascii (codes "out") refl, u, tt))

are_flat : (es : List TableEntry) → AllByRecursion IsTellable es → AreFlat es
are_flat [] h = tt
are_flat (e ∷ es) h = (entry_flat e h.0, are_flat es h.1)

-- ---- and UTF-8

number_utf8 : (n : Num) → FlatNumber n → IsUtf8 (number_text n)
number_utf8 (unsigned n) h = let low : n < 2 ^ 64 = omega (arith, h) in IsUtf8-from_ascii _ (IsAscii-decimal n low)
number_utf8 (negative z) h = subst (λ (z : ℤ). IsUtf8 (number_text (negative z))) (sym h) (IsUtf8-from_ascii _ (IsAscii-signed_decimal (negsuc 0) (omega arith)))
number_utf8 (float x) h = absurd h

flat_utf8 : (d : Data) → Flat d → IsUtf8 (compact_text d)
flat_utf8 null h = absurd h
flat_utf8 (boolean b) h = absurd h
flat_utf8 (number n) h = number_utf8 n h
flat_utf8 (string s) h = IsUtf8-quoted s h
flat_utf8 (array ds) h = absurd h
flat_utf8 (object ms) h = absurd h

comma_utf8 : (later : Bool) → IsUtf8 (comma_if later)
comma_utf8 true = IsUtf8-are_ascii (44 ∷ []) refl
comma_utf8 false = IsUtf8-nil

members_utf8 : (later : Bool) (ms : Members) → AllFlat ms → IsUtf8 (members_text later ms)
members_utf8 later no_members h = IsUtf8-are_ascii (125 ∷ []) refl
members_utf8 later (member k d ms) h =
    IsUtf8-append (comma_if later) _ (comma_utf8 later)
    (IsUtf8-append (quoted k) _ (IsUtf8-quoted k h.0) (IsUtf8-append (58 ∷ []) _ (IsUtf8-are_ascii (58 ∷ []) refl) (IsUtf8-append (compact_text d) _ (flat_utf8 d h.1) (members_utf8 true ms h.2))))

lines_utf8 : (es : List TableEntry) → AreFlat es → IsUtf8 (entry_lines es ++ end)
lines_utf8 [] h = IsUtf8-are_ascii end refl
lines_utf8 (e ∷ es) h =
    subst IsUtf8 (sym (lines_on e es)) (IsUtf8-append (44 ∷ 10 ∷ 123 ∷ []) _ (IsUtf8-are_ascii (44 ∷ 10 ∷ 123 ∷ []) refl) (IsUtf8-append (members_text false (entry_members e)) _ (members_utf8 false (entry_members e) h.0) (lines_utf8 es h.1)))

table_utf8 : (es : List TableEntry) → AreFlat es → IsUtf8 (table_text es)
table_utf8 [] h = IsUtf8-are_ascii (91 ∷ 93 ∷ 10 ∷ []) refl
table_utf8 (e ∷ es) h =
    subst IsUtf8 (ap (λ t. 91 ∷ drop 1 t) (sym (lines_on e es)))
    (IsUtf8-append (91 ∷ 10 ∷ 123 ∷ []) _ (IsUtf8-are_ascii (91 ∷ 10 ∷ 123 ∷ []) refl) (IsUtf8-append (members_text false (entry_members e)) _ (members_utf8 false (entry_members e) h.0) (lines_utf8 es h.1)))

-- ---- the whole

-- what is written is read as the same entries
pub table_back : (es : List TableEntry) → AllByRecursion IsTellable es → length (table_text es) ≤ longest_table → table_in (table_text es) ≡ Ok es
unfolding table_in json_of_file
table_back es h short =
    let text = table_text es in
    let flat = are_flat es h in
    ap₂ (λ a b. table_with (option_and_then as_array (if a && b then read text else None))) (le-leb (length text) longest_table short) (is_utf8-from_IsUtf8 text (table_utf8 es flat))
    ∙ ap (λ o. table_with (option_and_then as_array o)) (table_read es flat)
    ∙ entries_read 0 es h
