-- Words of lines: which bytes they lack, and how long they are.
use Rattle.std.proofs.Common.{◌≡◌, ◌≤◌, ◌<◌, ◌/◌, ◌%◌, ◌==◌, ◌&&◌, ℕ, zero, suc, List, [], ◌∷◌, ◌++◌, length, take, true, false, nat_le, nat_lt, if◌then◌else◌, Option, Some, None, codes, decimal, refl, ap, subst, inl, inr, ℤ, pos, negsuc, get_or, arith}
use Rattle.std.specs.List.{list_all, AllByRecursion}
use Rattle.std.specs.Fmt.{digits, digits_onto, digit_glyph}
use Rattle.std.specs.Str.{IsAscii, IsUtf8, bytes_eq}
use Rattle.std.specs.Cmp.Lexicographic.{bytes_decides}
use Rattle.std.proofs.lemmas.List.{take-append-le, length-take}
use Rattle.std.proofs.lemmas.Str.{IsUtf8-from_ascii}
use Rattle.std.proofs.lemmas.Bool.{cases_Bool, and_parts}
use Rattle.std.proofs.lemmas.Bool.Decides.{nat_tests}
use Rattle.std.proofs.lemmas.Fmt.{length-decimal-le}
use Rattle.bf_moment.specs.Moment.{moment_text, IsShown}
use Rattle.bf_moment.proofs.OneText.{moment_ascii}
use Rattle.bf_plan.specs.Ids.{is_id_in, is_id_byte_in}
use Rattle.bf_value.specs.declared.xval.Xval.{Xval}
use Rattle.bf_value.specs.declared.xval.Xval.TheVariants.{Flag, Int, Text, List as ListOf, Nil}
use Rattle.bf_value.specs.Json.{json_of}
use Rattle.bf_xcom.specs.declared.values.Outcome.{Outcome}
use Rattle.bf_xcom.specs.declared.values.Outcome.TheVariants.{Success, Failed, Skipped}
use Rattle.bf_xcom.specs.declared.values.RunState.{RunState}
use Rattle.bf_report.specs.Report.{state_word, value_word, pulled_word, run_state_word_of, version_word_of}
use Rattle.bf_report.specs.declared.report.Version.{Version}
use Rattle.bf_report_reader.specs.declared.entry.Untried.{Untried}
use Rattle.bf_report_reader.specs.Entries.{IsShownOutcome}
use Rattle.bf_report_reader.specs.inner.Entries.{index_text, IsIndex, never_word}
use Rattle.bf_report_reader.specs.Parts.{IsToldPulled}
use Rattle.bf_report_reader.specs.Faults.{longest_line}
use Rattle.bf_value.proofs.LackLemmas.{Lacks, first_lacks, lacks_more, decimal_lacks, text_lacks}

-- ---- ids

id_byte : (b : ℕ) → is_id_byte_in b ≡ true → (44 < b) × (b < 123) × (b ≡ 64 → ⊥)
id_byte b e = (grind (arith, nat_tests, e), grind (arith, nat_tests, e), λ same. grind (arith, nat_tests, e, same))

bytes_lack : (s : ℕ) (text : List ℕ) → s < 45 → list_all is_id_byte_in text ≡ true → Lacks s text
bytes_lack s [] low e = refl
bytes_lack s (x ∷ xs) low e =
    let (good, rest) = and_parts (is_id_byte_in x) (list_all is_id_byte_in xs) e in
    lacks_more s x xs (λ same. omega (arith, same, (id_byte x good).0)) (bytes_lack s xs low rest)

bytes_ascii : (text : List ℕ) → list_all is_id_byte_in text ≡ true → IsAscii text
bytes_ascii [] e i = omega arith
bytes_ascii (x ∷ xs) e zero = omega (arith, (id_byte x (and_parts (is_id_byte_in x) (list_all is_id_byte_in xs) e).0).1)
bytes_ascii (x ∷ xs) e (suc i) = bytes_ascii xs (and_parts (is_id_byte_in x) (list_all is_id_byte_in xs) e).1 i

id_parts : (id : List ℕ) → is_id_in id ≡ true → (length id ≤ 250) × (list_all is_id_byte_in id ≡ true)
id_parts id e =
    let (sizes, all) = and_parts (nat_le 1 (length id) && nat_le (length id) 250) (list_all is_id_byte_in id) e in
    let (some, few) = and_parts (nat_le 1 (length id)) (nat_le (length id) 250) sizes in
    (grind (arith, nat_tests, few), all)

pub id_lacks : (s : ℕ) (id : List ℕ) → s < 45 → is_id_in id ≡ true → Lacks s id
id_lacks s id low e = bytes_lack s id low (id_parts id e).1

pub id_utf8 : (id : List ℕ) → is_id_in id ≡ true → IsUtf8 id
id_utf8 id e = IsUtf8-from_ascii id (bytes_ascii id (id_parts id e).1)

-- a text that isn't UTF-8 is no id
pub no_id : (text : List ℕ) → ¬ (IsUtf8 text) → is_id_in text ≡ false
no_id text other = elim (cases_Bool (is_id_in text)) [ inl is ↦ absurd (other (id_utf8 text is)) | inr is ↦ is ]

pub id_short : (id : List ℕ) → is_id_in id ≡ true → length id ≤ 250
id_short id e = (id_parts id e).0

-- ---- moments

pub moment_utf8 : (n : ℤ) → IsShown n → IsUtf8 (moment_text n)
moment_utf8 n shown = IsUtf8-from_ascii (moment_text n) (moment_ascii n shown)

pub moment_length : (n : ℤ) → length (moment_text n) ≡ 20
unfolding moment_text
moment_length n = refl

high_lacks : (s : ℕ) (text : List ℕ) → s < 45 → AllByRecursion (λ b. 45 ≤ b) text → Lacks s text
high_lacks s [] low high = refl
high_lacks s (x ∷ xs) low high = lacks_more s x xs (λ e. omega (arith, e, low, high.0)) (high_lacks s xs low high.1)

pub moment_lacks : (s : ℕ) (n : ℤ) → s < 45 → Lacks s (moment_text n)
unfolding moment_text
moment_lacks s n low = high_lacks s (moment_text n) low
    (omega arith, (omega arith, (omega arith, (omega arith, (omega arith, (omega arith, (omega arith, (omega arith, (omega arith, (omega arith, (omega arith, (omega arith, (omega arith, (omega arith, (omega arith, (omega arith, (omega arith, (omega arith, (omega arith, (omega arith, tt))))))))))))))))))))

-- ---- words

-- no space and no line feed
abbrev pub IsPlain : List ℕ → Type 0
IsPlain text = Lacks 32 text × Lacks 10 text

pub moment_plain : (n : ℤ) → IsPlain (moment_text n)
moment_plain n = (moment_lacks 32 n (omega arith), moment_lacks 10 n (omega arith))

pub decimal_plain : (n : ℕ) → IsPlain (decimal n)
decimal_plain n = (decimal_lacks 32 n (omega arith), decimal_lacks 10 n (omega arith))

pub state_plain : (o : Outcome) → IsPlain (state_word o)
state_plain (Success value) = (refl, refl)
state_plain Failed = (refl, refl)
state_plain Skipped = (refl, refl)

pub never_plain : (u : Untried) → IsPlain (never_word u)
never_plain Untried.NoStatus = (refl, refl)
never_plain Untried.Skipped = (refl, refl)
never_plain Untried.UpstreamFailed = (refl, refl)

pub run_state_plain : (state : RunState) → IsPlain (run_state_word_of state)
run_state_plain RunState.Success = (refl, refl)
run_state_plain RunState.Failed = (refl, refl)

pub version_plain : (version : Version) → Lacks 32 (version_word_of version)
version_plain Version.One = refl
version_plain Version.Two = refl

pub index_plain : (x : Option ℕ) → IsPlain (index_text x)
index_plain None = (refl, refl)
index_plain (Some n) = decimal_plain n

pub value_lacks : (o : Outcome) → Lacks 10 (value_word o)
value_lacks (Success (Some value)) = text_lacks value
value_lacks (Success None) = refl
value_lacks Failed = refl
value_lacks Skipped = refl

-- ---- lengths

pub decimal_short : (n : ℕ) → n < 10_000 → length (decimal n) ≤ 4
decimal_short n small = length-decimal-le 4 n (omega arith) (omega arith) (omega arith)

pub state_short : (o : Outcome) → length (state_word o) ≤ 7
state_short (Success value) = omega arith
state_short Failed = omega arith
state_short Skipped = omega arith

pub never_short : (u : Untried) → length (never_word u) ≤ 15
never_short Untried.NoStatus = omega arith
never_short Untried.Skipped = omega arith
never_short Untried.UpstreamFailed = omega arith

pub run_state_short : (state : RunState) → length (run_state_word_of state) ≤ 7
run_state_short RunState.Success = omega arith
run_state_short RunState.Failed = omega arith

pub index_short : (x : Option ℕ) → IsIndex x → length (index_text x) ≤ 4
index_short None good = omega arith
index_short (Some n) good = decimal_short n (omega (arith, good))

pub value_short : (o : Outcome) → IsShownOutcome o → length (value_word o) ≤ 65_536
value_short (Success (Some value)) good = good.short
value_short (Success None) good = omega arith
value_short Failed good = omega arith
value_short Skipped good = omega arith

-- what is told of a pull
pub pulled_lacks : (value : Option Xval) → Lacks 10 (pulled_word value)
pulled_lacks None = refl
pulled_lacks (Some value) = text_lacks value

pub pulled_short : (value : Option Xval) → IsToldPulled value → length (pulled_word value) ≤ 67_109_889
pulled_short None good = omega arith
pulled_short (Some value) good = good.0.short

-- ---- how long a line may be

pub at_least : (line : List ℕ) → 66_000 ≤ longest_line line
at_least line = elim (cases_Bool (bytes_eq (take 6 line) (codes "@pull "))) as (λ _. 66_000 ≤ longest_line line) [
  | inl is ↦ rw is (omega arith)
  | inr not_is ↦ rw not_is (omega arith)
]

-- lines that begin alike may be as long
pub same_limit : (one two : List ℕ) → take 6 one ≡ take 6 two → longest_line one ≡ longest_line two
same_limit one two same = ap (λ l. if bytes_eq l (codes "@pull ") then 68_000_000 else 66_000) same

few_bytes : (line : List ℕ) → length line < 6 → longest_line line ≡ 66_000
few_bytes line few = elim (cases_Bool (bytes_eq (take 6 line) (codes "@pull "))) as (λ _. longest_line line ≡ 66_000) [
  | inl is ↦ absurd (omega (arith, ap length ((bytes_decides (take 6 line) (codes "@pull ")).0 is), length-take 6 line, few))
  | inr not_is ↦ rw not_is refl
]

-- a line may be as long with more bytes
pub limit_append : (line more : List ℕ) → longest_line line ≤ longest_line (line ++ more)
limit_append line more = elim (cases_Bool (nat_lt (length line) 6)) [
  | inl is ↦
      let few : length line < 6 = grind (arith, nat_tests, is) in
      omega (arith, few_bytes line few, at_least (line ++ more))
  | inr not_is ↦
      let many : 6 ≤ length line = grind (arith, nat_tests, not_is) in
      omega (arith, same_limit (line ++ more) line (take-append-le 6 line more many))
]

-- ---- values

onto_some : (k n : ℕ) (acc : List ℕ) → 0 < length acc → 0 < length (digits_onto k 10 false n acc)
onto_some zero n acc some = some
onto_some (suc k) n acc some = elim (cases_Bool (n / 10 == 0)) as (λ _. 0 < length (digits_onto (suc k) 10 false n acc)) [
  | inl is ↦ rw is (omega arith)
  | inr not_is ↦ rw not_is (onto_some k (n / 10) (digit_glyph false (n % 10) ∷ acc) (omega arith))
]

decimal_some : (n : ℕ) → 0 < length (decimal n)
unfolding digits
decimal_some n = elim (cases_Bool (n / 10 == 0)) as (λ _. 0 < length (digits_onto 64 10 false n [])) [
  | inl is ↦ rw is (omega arith)
  | inr not_is ↦ rw not_is (onto_some 63 (n / 10) (digit_glyph false (n % 10) ∷ []) (omega arith))
]

first_byte : (x y : ℕ) (xs ys : List ℕ) → x ∷ xs ≡ y ∷ ys → x ≡ y
first_byte x y xs ys e = ap (λ l. get_or l 0 0) e

-- no value has the text that stands for none
pub value_not_dash : (value : Xval) → json_of value ≡ codes "-" → ⊥
value_not_dash (Flag true) e = absurd (omega (arith, first_byte _ _ _ _ e))
value_not_dash (Flag false) e = absurd (omega (arith, first_byte _ _ _ _ e))
value_not_dash (Int (pos n)) e = (first_lacks 45 45 [] (subst (Lacks 45) e (decimal_lacks 45 n (omega arith)))).0 refl
value_not_dash (Int (negsuc n)) e = omega (arith, decimal_some (suc n), ap length e)
value_not_dash (Text s) e = absurd (omega (arith, first_byte _ _ _ _ e))
value_not_dash (ListOf ps) e = absurd (omega (arith, first_byte _ _ _ _ e))
value_not_dash Nil e = absurd (omega (arith, first_byte _ _ _ _ e))
