-- A list has no more items than its text has bytes.
use Rattle.std.proofs.Common.{◌≡◌, ℕ, zero, suc, ◌^◌, ◌<◌, ◌≤◌, Bool, true, false, ◌&&◌, if◌then◌else◌, List, [], ◌∷◌, length, Option, None, Some, option_map, option_and_then, nat_le, refl, subst, arith}
use Rattle.std.specs.Str.{is_utf8}
use Rattle.std.proofs.lemmas.Bool.{leb-true}
use Rattle.json.specs.Token.{Token, begin_object, end_object, begin_array, end_array, key, string, number, boolean, null, bad}
use Rattle.json.specs.Lex.{Lexeme, token, comma, colon, Class, quote, backslash, operator, space, other, Mode, between, in_word, in_string, in_escape, class, lex_byte, lex, Place, fresh, after_value, after_comma, after_key, begins_colon, if_allowed, place_token, punctuate, tokens}
use Rattle.json.specs.Json as json
use Rattle.serde_json.specs.Data.{Num, Data, number as data_number, array, object, Items, item, Members, no_members}
use Rattle.serde_json.specs.Events.{items_len}
use Rattle.serde_json.specs.Find.{as_array}
use Rattle.serde_json.specs.Read.{number_of, of_json, of_items, of_members, read, max_depth}
use Rattle.bf_table.specs.Tables.{json_of_file, longest_table}

-- ---- at most one token a byte, and one more

lexed_byte : (m : Mode) (c : Class) (x : ℕ) (xs : List ℕ) (k : Mode → List Lexeme) → ((next : Mode) → length (k next) ≤ length xs) → length (lex_byte m c x xs k) ≤ suc (length xs)
lexed_byte between quote x xs k h = omega (arith, h in_string)
lexed_byte between backslash x xs k h = omega (arith, h in_word)
lexed_byte between operator x xs k h = omega (arith, h between)
lexed_byte between space x xs k h = omega (arith, h between)
lexed_byte between other x xs k h = omega (arith, h in_word)
lexed_byte in_word quote x xs k h = omega (arith, h in_word)
lexed_byte in_word backslash x xs k h = omega (arith, h in_word)
lexed_byte in_word operator x xs k h = omega (arith, h between)
lexed_byte in_word space x xs k h = omega (arith, h between)
lexed_byte in_word other x xs k h = omega (arith, h in_word)
lexed_byte in_string quote x xs k h = omega (arith, h between)
lexed_byte in_string backslash x xs k h = omega (arith, h in_escape)
lexed_byte in_string operator x xs k h = omega (arith, h in_string)
lexed_byte in_string space x xs k h = omega (arith, h in_string)
lexed_byte in_string other x xs k h = omega (arith, h in_string)
lexed_byte in_escape c x xs k h = omega (arith, h in_string)

length_lex : (m : Mode) (xs : List ℕ) → length (lex m xs) ≤ length xs
unfolding lex
length_lex m [] = omega arith
length_lex m (x ∷ xs) = lexed_byte m (class x) x xs (λ next. lex next xs) (λ next. length_lex next xs)

allowed : (b : Bool) (t : Token) (k : Place → List Token) (next : Place) (n : ℕ) → ((p : Place) → length (k p) ≤ n) → length (if_allowed b t k next) ≤ suc n
allowed true t k next n h = omega (arith, h next)
allowed false t k next n h = omega arith

placed : (p : Place) (t : Token) (b : Bool) (k : Place → List Token) (n : ℕ) → ((q : Place) → length (k q) ≤ n) → length (place_token p t b k) ≤ suc n
placed p begin_object b k n h = allowed _ _ k _ n h
placed p end_object b k n h = allowed _ _ k _ n h
placed p begin_array b k n h = allowed _ _ k _ n h
placed p end_array b k n h = allowed _ _ k _ n h
placed p (key s) b k n h = omega arith
placed p (string s) true k n h = allowed _ _ k _ n h
placed p (string s) false k n h = allowed _ _ k _ n h
placed p (number s) b k n h = allowed _ _ k _ n h
placed p (boolean v) b k n h = allowed _ _ k _ n h
placed p null b k n h = allowed _ _ k _ n h
placed p bad b k n h = omega arith

length_punctuate : (p : Place) (ls : List Lexeme) → length (punctuate p ls) ≤ suc (length ls)
unfolding punctuate
length_punctuate fresh [] = omega arith
length_punctuate after_value [] = omega arith
length_punctuate after_comma [] = omega arith
length_punctuate after_key [] = omega arith
length_punctuate fresh (token t ∷ ls) = placed fresh t (begins_colon ls) (λ next. punctuate next ls) (suc (length ls)) (λ q. length_punctuate q ls)
length_punctuate after_value (token t ∷ ls) = placed after_value t (begins_colon ls) (λ next. punctuate next ls) (suc (length ls)) (λ q. length_punctuate q ls)
length_punctuate after_comma (token t ∷ ls) = placed after_comma t (begins_colon ls) (λ next. punctuate next ls) (suc (length ls)) (λ q. length_punctuate q ls)
length_punctuate after_key (token t ∷ ls) = placed after_key t (begins_colon ls) (λ next. punctuate next ls) (suc (length ls)) (λ q. length_punctuate q ls)
length_punctuate fresh (comma ∷ ls) = omega arith
length_punctuate after_value (comma ∷ ls) = omega (arith, length_punctuate after_comma ls)
length_punctuate after_comma (comma ∷ ls) = omega arith
length_punctuate after_key (comma ∷ ls) = omega arith
length_punctuate fresh (colon ∷ ls) = omega arith
length_punctuate after_value (colon ∷ ls) = omega arith
length_punctuate after_comma (colon ∷ ls) = omega arith
length_punctuate after_key (colon ∷ ls) = omega (arith, length_punctuate fresh ls)

length_tokens : (text : List ℕ) → length (tokens text) ≤ suc (length text)
length_tokens text = omega (arith, length_punctuate fresh (lex between text), length_lex between text)

-- ---- at most one item a token

count : json.Items → ℕ
count json.no_items = 0
count (json.item j js) = suc (count js)

AtMost : ℕ → Option (json.Items × List Token) → Type 0
AtMost n None = Unit {0}
AtMost n (Some p) = count p.0 ≤ n

longer : (n : ℕ) (j : json.Json) (r : Option (json.Items × List Token)) → AtMost n r → AtMost (suc n) (json.parse_map (json.item j) r)
unfolding count AtMost
longer n j None h = tt
longer n j (Some p) h = omega arith

first : (n : ℕ) (more : json.Parse json.Items) (r : Option (json.Json × List Token)) → ((ts : List Token) → AtMost n (more ts)) → AtMost (suc n) (option_and_then (λ p. json.parse_map (json.item p.0) (more p.1)) r)
unfolding AtMost
first n more None h = tt
first n more (Some p) h = longer n p.0 (more p.1) (h p.1)

step : (n : ℕ) (value : json.Parse json.Json) (more : json.Parse json.Items) (ts : List Token) (end : Option (List Token)) → ((us : List Token) → AtMost n (more us)) → AtMost (suc n) (json.items_step value more ts end)
unfolding count AtMost
step n value more ts None h = first n more (value ts) h
step n value more ts (Some rest) h = omega arith

few_items_read : (value : json.Parse json.Json) (n : ℕ) (ts : List Token) → AtMost n (json.items value n ts)
unfolding json.items AtMost
few_items_read value zero ts = tt
few_items_read value (suc n) ts = step n value (json.items value n) ts (json.after_end_array ts) (few_items_read value n)

ArrayAtMost : ℕ → Option (json.Json × List Token) → Type 0
ArrayAtMost n None = Unit {0}
ArrayAtMost n (Some (json.array js, rest)) = count js ≤ n
ArrayAtMost n (Some p) = Unit {0}

few_in_array : (n m : ℕ) (r : Option (json.Items × List Token)) → n ≤ m → AtMost n r → ArrayAtMost m (json.parse_map json.array r)
unfolding AtMost ArrayAtMost
few_in_array n m None le h = tt
few_in_array n m (Some p) le h = omega arith

none_in_object : (n : ℕ) (r : Option (json.Members × List Token)) → ArrayAtMost n (json.parse_map json.object r)
unfolding ArrayAtMost
none_in_object n None = tt
none_in_object n (Some p) = tt

few_in_value : (depth : ℕ) (ts : List Token) → ArrayAtMost (length ts) (json.value (suc depth) ts)
unfolding json.value ArrayAtMost
few_in_value depth [] = tt
few_in_value depth (begin_object ∷ ts) = none_in_object _ (json.members (json.value depth) (length ts) ts)
few_in_value depth (end_object ∷ ts) = tt
few_in_value depth (begin_array ∷ ts) = few_in_array (length ts) _ (json.items (json.value depth) (length ts) ts) (omega arith) (few_items_read (json.value depth) (length ts) ts)
few_in_value depth (end_array ∷ ts) = tt
few_in_value depth (key s ∷ ts) = tt
few_in_value depth (string s ∷ ts) = tt
few_in_value depth (number s ∷ ts) = tt
few_in_value depth (boolean b ∷ ts) = tt
few_in_value depth (null ∷ ts) = tt
few_in_value depth (bad ∷ ts) = tt

-- ---- the same of data

ItemsAtMost : ℕ → Option Items → Type 0
ItemsAtMost n None = Unit {0}
ItemsAtMost n (Some ds) = items_len ds ≤ n

DataAtMost : ℕ → Option Data → Type 0
DataAtMost n None = Unit {0}
DataAtMost n (Some (array ds)) = items_len ds ≤ n
DataAtMost n (Some d) = Unit {0}

one_more : (n : ℕ) (o : Option Data) (r : Option Items) → ItemsAtMost n r → ItemsAtMost (suc n) (option_and_then (λ d. option_map (item d) r) o)
unfolding ItemsAtMost
one_more n None r h = tt
one_more n (Some d) None h = tt
one_more n (Some d) (Some ds) h = omega arith

few_converted : (js : json.Items) → ItemsAtMost (count js) (of_items js)
unfolding ItemsAtMost count
few_converted json.no_items = omega arith
few_converted (json.item j js) = one_more (count js) (of_json j) (of_items js) (few_converted js)

in_array : (n m : ℕ) (r : Option Items) → n ≤ m → ItemsAtMost n r → DataAtMost m (option_map array r)
unfolding ItemsAtMost DataAtMost
in_array n m None le h = tt
in_array n m (Some ds) le h = omega arith

in_number : (n : ℕ) (r : Option Num) → DataAtMost n (option_map data_number r)
unfolding DataAtMost
in_number n None = tt
in_number n (Some x) = tt

in_object : (n : ℕ) (r : Option Members) → DataAtMost n (option_map object r)
unfolding DataAtMost
in_object n None = tt
in_object n (Some ms) = tt

few_in_data : (n : ℕ) (r : Option (json.Json × List Token)) → ArrayAtMost n r → DataAtMost n (option_and_then of_json (option_and_then (λ p. json.if_last p.0 p.1) r))
unfolding ArrayAtMost DataAtMost
few_in_data n None h = tt
few_in_data n (Some (j, t ∷ ts)) h = tt
few_in_data n (Some (json.null, [])) h = tt
few_in_data n (Some (json.boolean b, [])) h = tt
few_in_data n (Some (json.number s, [])) h = in_number n (number_of s)
few_in_data n (Some (json.string s, [])) h = tt
few_in_data n (Some (json.array js, [])) h = in_array (count js) n (of_items js) h (few_converted js)
few_in_data n (Some (json.object ms, [])) h = in_object n (of_members ms no_members)

array_of : (n : ℕ) (d : Data) (ds : Items) → DataAtMost n (Some d) → as_array d ≡ Some ds → items_len ds ≤ n
unfolding DataAtMost
array_of n (array es) ds h e = let same : es ≡ ds = cc in subst (λ (x : Items). items_len x ≤ n) same h
array_of n _ ds h e = cc

-- the items of a file's list are few
pub few_items : (bytes : List ℕ) (d : Data) → json_of_file bytes ≡ Some d → (ds : Items) → as_array d ≡ Some ds → items_len ds < 2 ^ 32
unfolding json_of_file
few_items bytes d there ds is =
    let both = was_read (nat_le (length bytes) longest_table) (is_utf8 bytes) (read bytes) d there in
    let few : DataAtMost (length (tokens bytes)) (read bytes) = few_in_data _ (json.value max_depth (tokens bytes)) (few_in_value 126 (tokens bytes)) in
    let short : length bytes ≤ longest_table = leb-true _ _ both.0 in
    let fits : items_len ds ≤ length (tokens bytes) = array_of _ d ds (subst (λ (r : Option Data). DataAtMost (length (tokens bytes)) r) both.1 few) is in
    omega (arith, length_tokens bytes)
  where
    was_read : (short text : Bool) (o : Option Data) (d : Data) → (if short && text then o else None) ≡ Some d → (short ≡ true) × (o ≡ Some d)
    was_read true true o d e = (refl, e)
    was_read true false o d e = cc
    was_read false text o d e = cc
