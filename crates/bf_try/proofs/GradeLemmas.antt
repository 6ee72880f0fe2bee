-- What a grade gives is an outcome that a grade could give.
use Rattle.std.proofs.Common.{◌≡◌, ◌≢◌, ◌≤◌, ℕ, zero, suc, ℤ, if◌then◌else◌, Bool, true, false, pos, IsUtf8, List, [], ◌∷◌, Option, None, Some, option_map, option_and_then, refl, sym, ap, ◌∙◌, subst, arith}
use Rattle.std.specs.Str.{is_utf8}
use Rattle.std.proofs.lemmas.Bool.{and_parts, le-leb, leb-true}
use Rattle.std.proofs.lemmas.Str.{is_utf8-from_IsUtf8, IsUtf8-nil}
use Rattle.serde_json.specs.Data.{Data, null, boolean, number, string, array, object, Items, no_items, item}
use Rattle.serde_json.specs.Find.{as_i64}
use Rattle.serde_json.specs.Read.{read}
use Rattle.bf_value.specs.Json.{deepest, plain_in, plains_in, pushed_of, json_of, value_of_line, value_or_text}
use Rattle.bf_value.specs.Plain.{Plain, flag, int, text, list, nil, Plains, none, more, plain_depth, plains_depth}
use Rattle.bf_value.specs.Views.{plain_of}
use Rattle.bf_value.proofs.TextLemmas.{IsUtf8-text_of, value_of_line_text_of}
use Rattle.bf_value.specs.declared.xval.Xval.{Xval}
use Rattle.bf_value.specs.declared.xval.Xval.TheVariants.{Flag, Int, Text, List as ListOf, Nil}
use Rattle.bf_plan.specs.declared.plan.Dag.{Dag}
use Rattle.bf_xcom.specs.declared.values.Outcome.{Outcome}
use Rattle.bf_try.specs.declared.answers.Exit.{Exit}
use Rattle.bf_try.specs.declared.answers.Line.{Line}
use Rattle.bf_try.specs.declared.answers.Raw.{Raw}
use Rattle.bf_try.specs.Grades.{HasSoundValue, fits_in, grade_of, grade_answer, grade_line_of, grade_status, grade_value, is_status, is_readable_from_line_in, may_push_in}

int_some : (o : Option ℤ) (p : Plain) → option_map int o ≡ Some p → plain_depth p ≤ 0
int_some None p e = cc
int_some (Some z) p e = let is : int z ≡ p = cc in subst (λ (q : Plain). plain_depth q ≤ 0) is (omega arith)

listed : (n : ℕ) (o : Option Plains) (p : Plain) → ((ps : Plains) → o ≡ Some ps → plains_depth ps ≤ suc n) → option_map list o ≡ Some p → plain_depth p ≤ suc n
listed n None p deep e = cc
listed n (Some ps) p deep e = let is : list ps ≡ p = cc in subst (λ (q : Plain). plain_depth q ≤ suc n) is (deep ps refl)

joined : (n : ℕ) (o : Option Plain) (os : Option Plains) (ps : Plains) → ((p : Plain) → o ≡ Some p → plain_depth p ≤ n) → ((qs : Plains) → os ≡ Some qs → plains_depth qs ≤ suc n)
    → option_and_then (λ p. option_map (more p) os) o ≡ Some ps → plains_depth ps ≤ suc n
joined n None os ps deep deeper e = cc
joined n (Some p) None ps deep deeper e = cc
joined n (Some p) (Some qs) ps deep deeper e =
    let is : more p qs ≡ ps = cc in
    let first : plain_depth p ≤ n = deep p refl in
    let rest : plains_depth qs ≤ suc n = deeper qs refl in
    subst (λ (rs : Plains). plains_depth rs ≤ suc n) is (omega (arith, first, rest))

-- lists of data that is read n deep nest no deeper
mutual
  depth_read : (n : ℕ) (d : Data) (p : Plain) → plain_in n d ≡ Some p → plain_depth p ≤ n
  depth_read n null p e = let is : nil ≡ p = cc in subst (λ (q : Plain). plain_depth q ≤ n) is (omega arith)
  depth_read n (boolean b) p e = let is : flag b ≡ p = cc in subst (λ (q : Plain). plain_depth q ≤ n) is (omega arith)
  depth_read n (number x) p e = let low : plain_depth p ≤ 0 = int_some (as_i64 x) p e in omega (arith, low)
  depth_read n (string s) p e = let is : text s ≡ p = cc in subst (λ (q : Plain). plain_depth q ≤ n) is (omega arith)
  depth_read zero (array ds) p e = cc
  depth_read (suc n) (array ds) p e = listed n (plains_in n ds) p (λ ps h. depths_read n ds ps h) e
  depth_read n (object ms) p e = cc

  depths_read : (n : ℕ) (ds : Items) (ps : Plains) → plains_in n ds ≡ Some ps → plains_depth ps ≤ suc n
  depths_read n no_items ps e = let is : none ≡ ps = cc in subst (λ (q : Plains). plains_depth q ≤ suc n) is (omega arith)
  depths_read n (item d ds) ps e = joined n (plain_in n d) (plains_in n ds) ps (λ p h. depth_read n d p h) (λ qs h. depths_read n ds qs h) e

-- what is read is null only where the data is
not_nil : (n : ℕ) (d : Data) → d ≢ null → plain_in n d ≡ Some nil → ⊥
not_nil n null other e = other refl
not_nil n (boolean b) other e = cc
not_nil n (number x) other e = none_in (as_i64 x) e
  where
    none_in : (o : Option ℤ) → option_map int o ≡ Some nil → ⊥
    none_in None h = cc
    none_in (Some z) h = cc
not_nil n (string s) other e = cc
not_nil zero (array ds) other e = cc
not_nil (suc n) (array ds) other e = none_in (plains_in n ds) e
  where
    none_in : (o : Option Plains) → option_map list o ≡ Some nil → ⊥
    none_in None h = cc
    none_in (Some ps) h = cc
not_nil n (object ms) other e = cc

read_values : (line : List ℕ) (d : Data) → d ≢ null → is_readable_from_line_in (Some (value_or_text line (plain_in deepest d))) ≡ true
read_values line d other = by (plain_in deepest d) refl
  where
    by : (o : Option Plain) → plain_in deepest d ≡ o → is_readable_from_line_in (Some (value_or_text line o)) ≡ true
    by None e = refl
    by (Some (flag b)) e = refl
    by (Some (int z)) e = refl
    by (Some (text s)) e = refl
    by (Some (list ps)) e = let low : plain_depth (list ps) ≤ deepest = depth_read deepest d (list ps) e in le-leb _ _ low
    by (Some nil) e = absurd (not_nil deepest d other e)

pushed_values : (line : List ℕ) (o : Option Data) → is_readable_from_line_in (pushed_of line o) ≡ true
pushed_values line None = refl
pushed_values line (Some null) = refl
pushed_values line (Some (boolean b)) = read_values line (boolean b) (λ e. cc)
pushed_values line (Some (number x)) = read_values line (number x) (λ e. cc)
pushed_values line (Some (string s)) = read_values line (string s) (λ e. cc)
pushed_values line (Some (array ds)) = read_values line (array ds) (λ e. cc)
pushed_values line (Some (object ms)) = read_values line (object ms) (λ e. cc)

-- a line pushes nothing or a value of lines
lines_values : (line : List ℕ) → is_readable_from_line_in (value_of_line line) ≡ true
lines_values [] = refl
lines_values (b ∷ bs) = pushed_values (b ∷ bs) (read (b ∷ bs))

value_fits : (dag : Dag) (t : ℕ) (v : Option Xval) → is_readable_from_line_in v ≡ true → fits_in dag t (grade_value dag t v) ≡ true
unfolding fits_in
value_fits dag t v ok = by (may_push_in dag t v) refl
  where
    by : (b : Bool) → may_push_in dag t v ≡ b → fits_in dag t (if b then Outcome.Success v else Outcome.Failed) ≡ true
    by true e = rw (ok, e) refl
    by false e = refl

line_fits : (dag : Dag) (t : ℕ) (line : List ℕ) → fits_in dag t (grade_line_of dag t line) ≡ true
unfolding fits_in
line_fits dag t line = by (is_utf8 line)
  where
    by : (b : Bool) → fits_in dag t (if b then grade_value dag t (value_of_line line) else Outcome.Failed) ≡ true
    by true = value_fits dag t (value_of_line line) (lines_values line)
    by false = refl

status_fits : (dag : Dag) (t : ℕ) (status : ℤ) (line : List ℕ) → fits_in dag t (grade_status dag t status line) ≡ true
unfolding fits_in
status_fits dag t status line = by (is_status 99 status) (is_status 0 status)
  where
    by : (skips succeeds : Bool) → fits_in dag t (if skips then Outcome.Skipped else (if succeeds then grade_line_of dag t line else Outcome.Failed)) ≡ true
    by true b = refl
    by false true = line_fits dag t line
    by false false = refl

answer_fits : (dag : Dag) (t : ℕ) (exit : Exit) (line : Line) → fits_in dag t (grade_answer dag t exit line) ≡ true
unfolding fits_in
answer_fits dag t (Exit.Code status) (Line.Bytes line) = status_fits dag t status line
answer_fits dag t _ _ = refl

-- a grade fits
pub grade_fits : (dag : Dag) (t : ℕ) (raw : Raw) → fits_in dag t (grade_of dag t raw) ≡ true
unfolding grade_of
grade_fits dag t raw = answer_fits dag t raw.exit raw.line

-- ---- and what fits is a grade

value_fact : (x : Xval) → is_readable_from_line_in (Some x) ≡ true → (x ≢ Nil) × (plain_depth (plain_of x) ≤ deepest)
value_fact (Flag b) e = (λ h. cc, omega arith)
value_fact (Int z) e = (λ h. cc, omega arith)
value_fact (Text s) e = (λ h. cc, omega arith)
value_fact (ListOf ps) e = (λ h. cc, leb-true _ _ e)
value_fact Nil e = cc

-- the text of a value that lines may have is a line with this value
pub line_reads_back : (x : Xval) (line : List ℕ) → (x ≢ Nil → plain_depth (plain_of x) ≤ deepest → value_of_line line ≡ Some x) → is_readable_from_line_in (Some x) ≡ true → value_of_line line ≡ Some x
line_reads_back x line back e = let fact = value_fact x e in back fact.0 fact.1

success_parts : (dag : Dag) (t : ℕ) (v : Option Xval) → fits_in dag t (Outcome.Success v) ≡ true → (is_readable_from_line_in v ≡ true) × (may_push_in dag t v ≡ true)
unfolding fits_in
success_parts dag t v e = and_parts _ _ e

-- a line that reads as what a task may push is graded as a success that pushes it
pub success_graded : (dag : Dag) (t : ℕ) (v : Option Xval) (line : List ℕ) → IsUtf8 line → (is_readable_from_line_in v ≡ true → value_of_line line ≡ v) → fits_in dag t (Outcome.Success v) ≡ true
    → grade_of dag t (record { exit = Exit.Code (pos 0); line = Line.Bytes line }) ≡ Outcome.Success v
unfolding grade_of
success_graded dag t v line utf8 reads e =
    let parts = success_parts dag t v e in
    rw (is_utf8-from_IsUtf8 line utf8) (ap (grade_value dag t) (reads parts.0) ∙ ap (λ b. if b then Outcome.Success v else Outcome.Failed) parts.1)

-- the same of an answer and an outcome that are equal to these
pub success_answered : (o : Outcome) (raw : Raw) (v : Option Xval) (line : List ℕ) → o ≡ Outcome.Success v → raw ≡ record { exit = Exit.Code (pos 0); line = Line.Bytes line } → IsUtf8 line → (is_readable_from_line_in v ≡ true → value_of_line line ≡ v)
    → (dag : Dag) (t : ℕ) → fits_in dag t o ≡ true → grade_of dag t raw ≡ o
success_answered o raw v line is answer utf8 reads dag t e =
    ap (grade_of dag t) answer ∙ success_graded dag t v line utf8 reads (subst (λ (x : Outcome). fits_in dag t x ≡ true) is e) ∙ sym is

pub failed_answered : (o : Outcome) (raw : Raw) (line : List ℕ) → o ≡ Outcome.Failed → raw ≡ record { exit = Exit.Code (pos 1); line = Line.Bytes line } → (dag : Dag) (t : ℕ) → grade_of dag t raw ≡ o
unfolding grade_of
failed_answered o raw line is answer dag t = ap (grade_of dag t) answer ∙ sym is

pub skipped_answered : (o : Outcome) (raw : Raw) (line : List ℕ) → o ≡ Outcome.Skipped → raw ≡ record { exit = Exit.Code (pos 99); line = Line.Bytes line } → (dag : Dag) (t : ℕ) → grade_of dag t raw ≡ o
unfolding grade_of
skipped_answered o raw line is answer dag t = ap (grade_of dag t) answer ∙ sym is

-- the answer by which a program ends so, and prints this line
abbrev coded : ℕ → List ℕ → Raw
coded status line = record { exit = Exit.Code (pos status); line = Line.Bytes line }

-- each outcome that fits is the grade of an answer
pub fit_graded : (dag : Dag) (t : ℕ) (o : Outcome) → HasSoundValue o → fits_in dag t o ≡ true → (raw : Raw) × (grade_of dag t raw ≡ o)
fit_graded dag t (Outcome.Success None) sound e = (coded 0 [], success_graded dag t None [] IsUtf8-nil (λ _. refl) e)
fit_graded dag t (Outcome.Success (Some x)) sound e =
    (coded 0 (json_of x), success_graded dag t (Some x) (json_of x) (IsUtf8-text_of x sound) (line_reads_back x (json_of x) (λ some deep. value_of_line_text_of x sound deep some)) e)
fit_graded dag t Outcome.Failed sound e = (coded 1 [], failed_answered Outcome.Failed (coded 1 []) [] refl refl dag t)
fit_graded dag t Outcome.Skipped sound e = (coded 99 [], skipped_answered Outcome.Skipped (coded 99 []) [] refl refl dag t)
