-- Entries, piece by piece.
use Rattle.std.proofs.Common.{◌≡◌, ℕ, zero, suc, ◌+◌, ◌-◌, ◌<◌, ◌≤◌, true, List, [], ◌∷◌, ◌++◌, Some, ℤ, negsuc, codes, decimal, length, map, take, get_or, refl, sym, ap, ◌∙◌, append_assoc, append-nil, arith}
use Rattle.std.specs.List.{flat_map, enumerate_from, range_with_len}
use Rattle.std.proofs.lemmas.Fmt.{decimal_digit}
use Rattle.std.proofs.lemmas.Grind.{flat_map-append}
use Rattle.std.proofs.lemmas.List.{take_more}
use Rattle.std.proofs.lemmas.List.FromFn.{map-range_with_len_more}
use Rattle.std.proofs.Math.ListN.{length-take}
use Rattle.json.specs.Print.{quoted}
use Rattle.json.proofs.OnLiterals.{json_on_literals}
use Rattle.serde_json.specs.Data.{number, string, object, unsigned, Members, no_members, member}
use Rattle.serde_json.specs.Find.{of_integer}
use Rattle.serde_json.specs.Written.{compact_text, members_text, number_text}
use Rattle.bf_table.specs.declared.table.TableEntry.{TableEntry}
use Rattle.bf_answers.specs.Answers.{tasks_entries}
use Rattle.bf_answers.specs.inner.Pieces.{named_members}
use Rattle.bf_answers.specs.TableText.{entry_line, entry_lines, status_data}
use Rattle.bf_report.specs.declared.report.TaskReport.{TaskReport}

-- ---- members

pub task_key : codes ",\n{\"task\":" ≡ 44 ∷ 10 ∷ 123 ∷ (quoted (codes "task") ++ 58 ∷ [])
unfolding json_on_literals
task_key = refl

pub index_key : codes ",\"index\":" ≡ 44 ∷ (quoted (codes "index") ++ 58 ∷ [])
unfolding json_on_literals
index_key = refl

pub run_key : codes ",\"run\":" ≡ 44 ∷ (quoted (codes "run") ++ 58 ∷ [])
unfolding json_on_literals
run_key = refl

pub try_key : codes ",\"try\":" ≡ 44 ∷ (quoted (codes "try") ++ 58 ∷ [])
unfolding json_on_literals
try_key = refl

pub status_key : codes ",\"status\":" ≡ 44 ∷ (quoted (codes "status") ++ 58 ∷ [])
unfolding json_on_literals
status_key = refl

pub out_key : codes ",\"out\":" ≡ 44 ∷ (quoted (codes "out") ++ 58 ∷ [])
unfolding json_on_literals
out_key = refl

pub minus_one : codes "-1" ≡ number_text (of_integer (negsuc 0))
minus_one = ap (λ s. 45 ∷ s) (sym (decimal_digit 1 (omega arith)))

in_a_row : (t q a k i r s y n m o p u v : List ℕ) → o ≡ 44 ∷ 10 ∷ 123 ∷ (q ++ 58 ∷ []) → p ≡ 44 ∷ (k ++ 58 ∷ []) → u ≡ 44 ∷ (r ++ 58 ∷ []) → v ≡ 44 ∷ (y ++ 58 ∷ [])
    → ((((((((t ++ o) ++ a) ++ p) ++ i) ++ u) ++ s) ++ v) ++ n) ++ m ≡ t ++ 44 ∷ 10 ∷ 123 ∷ (q ++ 58 ∷ (a ++ (44 ∷ (k ++ 58 ∷ (i ++ (44 ∷ (r ++ 58 ∷ (s ++ (44 ∷ (y ++ 58 ∷ (n ++ m)))))))))))
in_a_row t q a k i r s y n m o p u v first second third fourth = rw (first, second, third, fourth) (simp append_assoc)

-- what the entry of a try begins with
pub named_made : (t run id : List ℕ) (index : ℤ) (attempt : ℕ) (ms : Members)
    → ((((((((t ++ codes ",\n{\"task\":") ++ quoted id) ++ codes ",\"index\":") ++ number_text (of_integer index)) ++ codes ",\"run\":") ++ quoted run) ++ codes ",\"try\":") ++ decimal attempt) ++ members_text true ms
    ≡ t ++ 44 ∷ 10 ∷ compact_text (object (named_members run id index attempt ms))
named_made t run id index attempt ms =
    in_a_row t (quoted (codes "task")) (quoted id) (quoted (codes "index")) (number_text (of_integer index)) (quoted (codes "run")) (quoted run) (quoted (codes "try")) (decimal attempt) (members_text true ms) _ _ _ _ task_key index_key run_key try_key

last_in_a_row : (t q d o : List ℕ) → o ≡ 44 ∷ (q ++ 58 ∷ []) → ((t ++ o) ++ d) ++ 125 ∷ [] ≡ t ++ 44 ∷ (q ++ 58 ∷ (d ++ 125 ∷ []))
last_in_a_row t q d o e = rw e (simp append_assoc)

-- the last member of an entry
pub status_made : (t : List ℕ) (status : ℕ) → ((t ++ codes ",\"status\":") ++ decimal status) ++ codes "}" ≡ t ++ members_text true (member (codes "status") (number (unsigned status)) no_members)
status_made t status = last_in_a_row t (quoted (codes "status")) (decimal status) _ status_key

pub out_made : (t text : List ℕ) → ((t ++ codes ",\"out\":") ++ quoted text) ++ codes "}" ≡ t ++ members_text true (member (codes "out") (string text) no_members)
out_made t text = last_in_a_row t (quoted (codes "out")) (quoted text) _ out_key

pub status_there : (n : ℕ) → 0 < n → status_data n ≡ Some (number (unsigned n))
status_there zero h = absurd (omega arith)
status_there (suc n) h = refl

-- ---- entries behind each other

pub one_line : (t : List ℕ) (e : TableEntry) → t ++ entry_line e ≡ t ++ entry_lines (e ∷ [])
one_line t e = ap (λ s. t ++ s) (sym (append-nil (entry_line e)))

pub lines_append : (t : List ℕ) (es fs : List TableEntry) → (t ++ entry_lines es) ++ entry_lines fs ≡ t ++ entry_lines (es ++ fs)
lines_append t es fs = append_assoc t (entry_lines es) (entry_lines fs) ∙ ap (λ s. t ++ s) (sym (flat_map-append entry_line es fs))

-- one item more
pub items_more : {X : Type 0} (t : List ℕ) (f : X → List TableEntry) (xs : List X) (i : ℕ) (x : X) → i < length xs → x ≡ get_or xs i x
    → (t ++ entry_lines (flat_map f (take i xs))) ++ entry_lines (f x) ≡ t ++ entry_lines (flat_map f (take (i + 1) xs))
items_more t f xs i x inside e =
    let all : take (i + 1) xs ≡ take i xs ++ x ∷ [] = take_more xs i x inside ∙ ap (λ y. take i xs ++ y ∷ []) (sym e) in
    lines_append t (flat_map f (take i xs)) (f x)
    ∙ ap (λ es. t ++ entry_lines (flat_map f (take i xs) ++ es)) (sym (append-nil (f x)))
    ∙ ap (λ es. t ++ entry_lines es) (sym (flat_map-append f (take i xs) (x ∷ [])))
    ∙ ap (λ ys. t ++ entry_lines (flat_map f ys)) (sym all)

numbered : {X : Type 0} (n m : ℕ) (xs : List X) (x : X) → m ≡ n + length xs → enumerate_from n (xs ++ x ∷ []) ≡ enumerate_from n xs ++ (m, x) ∷ []
numbered n m [] x e = let same : n ≡ m = omega arith in ap (λ k. (k, x) ∷ []) same
numbered n m (y ∷ ys) x e = ap (λ ps. (n, y) ∷ ps) (numbered (n + 1) m ys x (omega arith))

-- one try more
pub try_more : (t : List ℕ) (f : ℕ → TableEntry) (attempt : ℕ) → 1 ≤ attempt → (t ++ entry_lines (map f (range_with_len 1 (attempt - 1)))) ++ entry_line (f attempt) ≡ t ++ entry_lines (map f (range_with_len 1 (attempt + 1 - 1)))
try_more t f attempt some =
    let n = attempt - 1 in
    let before = map f (range_with_len 1 n) in
    let last : 1 + n ≡ attempt = omega (arith, some) in
    let all : n + 1 ≡ attempt + 1 - 1 = omega (arith, some) in
    one_line (t ++ entry_lines before) (f attempt) ∙ lines_append t before (f attempt ∷ [])
    ∙ ap (λ es. t ++ entry_lines es) (sym (map-range_with_len_more f 1 n attempt last)) ∙ ap (λ k. t ++ entry_lines (map f (range_with_len 1 k))) all

-- one item more with its number
pub numbered_more : {X : Type 0} (t : List ℕ) (f : ℕ × X → List TableEntry) (xs : List X) (i : ℕ) (x : X) → i < length xs → x ≡ get_or xs i x
    → (t ++ entry_lines (flat_map f (enumerate_from 0 (take i xs)))) ++ entry_lines (f (i, x)) ≡ t ++ entry_lines (flat_map f (enumerate_from 0 (take (i + 1) xs)))
numbered_more t f xs i x inside e =
    let all : take (i + 1) xs ≡ take i xs ++ x ∷ [] = take_more xs i x inside ∙ ap (λ y. take i xs ++ y ∷ []) (sym e) in
    let size : length (take i xs) ≡ i = omega (arith, length-take i xs) in
    let before = enumerate_from 0 (take i xs) in
    lines_append t (flat_map f before) (f (i, x))
    ∙ ap (λ es. t ++ entry_lines (flat_map f before ++ es)) (sym (append-nil (f (i, x))))
    ∙ ap (λ es. t ++ entry_lines es) (sym (flat_map-append f before ((i, x) ∷ [])))
    ∙ ap (λ ps. t ++ entry_lines (flat_map f ps)) (sym (numbered 0 i (take i xs) x (omega arith)) ∙ ap (enumerate_from 0) (sym all))

pub no_ids : (run : List ℕ) (ids : List (List ℕ)) (tasks : List TaskReport) → length ids ≡ 0 → tasks_entries run ids tasks ≡ []
no_ids run [] tasks e = refl
no_ids run (id ∷ ids) tasks e = absurd (omega arith)

pub no_tasks : (run : List ℕ) (ids : List (List ℕ)) (tasks : List TaskReport) → length tasks ≡ 0 → tasks_entries run ids tasks ≡ []
no_tasks run [] [] e = refl
no_tasks run (id ∷ ids) [] e = refl
no_tasks run ids (task ∷ tasks) e = absurd (omega arith)
