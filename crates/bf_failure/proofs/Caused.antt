-- A failure is why the answer failed.
use Rattle.std.proofs.Common.{◌≡◌, ◌≢◌, ◌<◌, ℕ, ℤ, pos, negsuc, Bool, true, false, not, ◌&&◌, ◌||◌, List, [], ◌∷◌, length, Option, None, Some, find, if◌then◌else◌, refl, sym, ap, ◌∙◌, subst, true≢false}
use Rattle.std.specs.List.{list_any}
use Rattle.std.specs.Str.{is_utf8}
use Rattle.std.proofs.lemmas.Bool.{and_parts, leb-false, eqb-true}
use Rattle.std.proofs.lemmas.Str.{IsUtf8-from_is_utf8, is_utf8-from_IsUtf8}
use Rattle.bf_value.specs.Json.{json_of, value_of_line}
use Rattle.bf_value.specs.declared.xval.Xval.{Xval}
use Rattle.bf_rule.specs.Branches.{names_downstreams_in}
use Rattle.bf_plan.specs.Plans.{task_of, shape_of, is_branch_in}
use Rattle.bf_plan.specs.declared.plan.Task.{Task}
use Rattle.bf_plan.specs.declared.plan.Dag.{Dag}
use Rattle.bf_try.specs.declared.answers.Exit.{Exit}
use Rattle.bf_try.specs.declared.answers.Line.{Line}
use Rattle.bf_try.specs.declared.answers.Raw.{Raw}
use Rattle.bf_try.specs.Grades.{gives_items_in, is_list_of_items_in, is_short_value_in, is_source, is_status}
use Rattle.bf_failure.specs.declared.failure.Failure.{Failure}
use Rattle.bf_failure.specs.declared.failure.Failure.TheVariants.{Status, Signal, NotStarted, TooMuchOutput, UnreadOutput, NotUtf8, LongValue, NoDownstream, NoItems}
use Rattle.bf_failure.specs.Causes.{ended, IsCause, Pushes}
use Rattle.bf_failure.specs.Failures.{answer_failure, failure_of, first_expanded, id_in, line_failure, status_failure, text_in, value_failure}

found_first : {X : Type 0} (p : X → Bool) (xs : List X) → list_any p xs ≡ true → (x : X) × (find p xs ≡ Some x)
found_first p [] e = absurd (true≢false (sym e))
found_first {X = X} p (x ∷ xs) e = by (p x) e (found_first p xs)
  where
    by : (b : Bool) → (b || list_any p xs) ≡ true → (list_any p xs ≡ true → (y : X) × (find p xs ≡ Some y)) → (y : X) × ((if b then Some x else find p xs) ≡ Some y)
    by true e rest = (x, refl)
    by false e rest = rest e

-- the failure is this one
the_cause : (dag : Dag) (task : ℕ) (raw : Raw) (this failure : Failure) → Some this ≡ Some failure → IsCause dag task raw this → IsCause dag task raw failure
the_cause dag task raw this failure e cause = let same : this ≡ failure = cc in subst (λ (f : Failure). IsCause dag task raw f) same cause

long_cause : (dag : Dag) (task : ℕ) (raw : Raw) (value : Option Xval) → Pushes raw value → is_short_value_in value ≡ false → IsCause dag task raw LongValue
long_cause dag task raw None pushes e = absurd (true≢false e)
long_cause dag task raw (Some value) pushes e = (value, pushes, leb-false _ _ e)

branch_cause : (dag : Dag) (task : ℕ) (raw : Raw) (value : Option Xval) → Pushes raw value → is_branch_in (task_of dag task) ≡ true → names_downstreams_in (shape_of dag) task value ≡ false → IsCause dag task raw (NoDownstream (text_in value))
branch_cause dag task raw None pushes branch e = absurd (true≢false e)
branch_cause dag task raw (Some value) pushes branch e = (value, pushes, refl, branch, e)

items_cause : (dag : Dag) (task : ℕ) (raw : Raw) (value : Option Xval) → Pushes raw value → gives_items_in dag task ≡ true → is_list_of_items_in value ≡ false → IsCause dag task raw (NoItems (id_in (first_expanded dag task)))
items_cause dag task raw value pushes gives e =
    let found = found_first (λ (other : Task). is_source other.expand task) dag.tasks (and_parts _ _ gives).1 in
    (value, found.0, pushes, e, found.1, ap id_in (sym found.1))

value_cause : (dag : Dag) (task : ℕ) (raw : Raw) (value : Option Xval) → Pushes raw value → (failure : Failure) → value_failure dag task value ≡ Some failure → IsCause dag task raw failure
value_cause dag task raw value pushes failure =
    by (is_short_value_in value) (is_branch_in (task_of dag task)) (names_downstreams_in (shape_of dag) task value) (gives_items_in dag task) (is_list_of_items_in value) refl refl refl refl refl
  where
    no_items : (gives items : Bool) → gives_items_in dag task ≡ gives → is_list_of_items_in value ≡ items → (if gives && not items then Some (NoItems (id_in (first_expanded dag task))) else None) ≡ Some failure → IsCause dag task raw failure
    no_items true false g i e = the_cause dag task raw _ failure e (items_cause dag task raw value pushes g i)
    no_items true true g i e = cc
    no_items false items g i e = cc

    by : (short branch names gives items : Bool) → is_short_value_in value ≡ short → is_branch_in (task_of dag task) ≡ branch → names_downstreams_in (shape_of dag) task value ≡ names → gives_items_in dag task ≡ gives → is_list_of_items_in value ≡ items
        → (if not short then Some LongValue else (if branch && not names then Some (NoDownstream (text_in value)) else (if gives && not items then Some (NoItems (id_in (first_expanded dag task))) else None))) ≡ Some failure
        → IsCause dag task raw failure
    by false branch names gives items s b n g i e = the_cause dag task raw LongValue failure e (long_cause dag task raw value pushes s)
    by true true false gives items s b n g i e = the_cause dag task raw (NoDownstream (text_in value)) failure e (branch_cause dag task raw value pushes b n)
    by true true true gives items s b n g i e = no_items gives items g i e
    by true false names gives items s b n g i e = no_items gives items g i e

line_cause : (dag : Dag) (task : ℕ) (raw : Raw) (line : List ℕ) → raw ≡ ended (pos 0) line → (failure : Failure) → line_failure dag task line ≡ Some failure → IsCause dag task raw failure
line_cause dag task raw line is failure = by (is_utf8 line) refl
  where
    by : (text : Bool) → is_utf8 line ≡ text → (if text then value_failure dag task (value_of_line line) else Some NotUtf8) ≡ Some failure → IsCause dag task raw failure
    by true text e = value_cause dag task raw (value_of_line line) (record { line = line; is_ended = is; is_text = IsUtf8-from_is_utf8 line text; says = refl }) failure e
    by false text e = the_cause dag task raw NotUtf8 failure e (line, is, λ utf8. true≢false (sym (is_utf8-from_IsUtf8 line utf8) ∙ text))

is_number : (n : ℕ) (status : ℤ) → is_status n status ≡ true → status ≡ pos n
is_number n (pos number) e = ap pos (eqb-true number n e)
is_number n (negsuc number) e = absurd (true≢false (sym e))

no_number : (n : ℕ) (status : ℤ) → is_status n (pos n) ≡ true → is_status n status ≡ false → status ≢ pos n
no_number n status itself e same = true≢false (sym itself ∙ (ap (is_status n) (sym same) ∙ e))

status_cause : (dag : Dag) (task : ℕ) (raw : Raw) (status : ℤ) (line : List ℕ) → raw ≡ ended status line → (failure : Failure) → status_failure dag task status line ≡ Some failure → IsCause dag task raw failure
status_cause dag task raw status line is failure = by (is_status 99 status) (is_status 0 status) refl refl
  where
    by : (skips succeeds : Bool) → is_status 99 status ≡ skips → is_status 0 status ≡ succeeds → (if skips then None else (if succeeds then line_failure dag task line else Some (Status status))) ≡ Some failure → IsCause dag task raw failure
    by true succeeds s z e = cc
    by false true s z e = line_cause dag task raw line (is ∙ ap (λ n. ended n line) (is_number 0 status z)) failure e
    by false false s z e = the_cause dag task raw (Status status) failure e (line, is, no_number 0 status refl z, no_number 99 status refl s)

pub failures_are_causes : (dag : Dag) (task : ℕ) (raw : Raw) (failure : Failure) → failure_of dag task raw ≡ Some failure → IsCause dag task raw failure
unfolding failure_of
failures_are_causes dag task raw failure = by raw.exit raw.line refl refl
  where
    by : (exit : Exit) (line : Line) → raw.exit ≡ exit → raw.line ≡ line → answer_failure dag task exit line ≡ Some failure → IsCause dag task raw failure
    by (Exit.Code status) (Line.Bytes line) x l e = status_cause dag task raw status line (λ i. record { exit = x i; line = l i }) failure e
    by (Exit.Code status) Line.TooMuch x l e = the_cause dag task raw TooMuchOutput failure e l
    by (Exit.Code status) Line.ReadFault x l e = the_cause dag task raw UnreadOutput failure e l
    by Exit.Signal (Line.Bytes line) x l e = the_cause dag task raw (Signal None) failure e x
    by Exit.Signal Line.TooMuch x l e = the_cause dag task raw TooMuchOutput failure e l
    by Exit.Signal Line.ReadFault x l e = the_cause dag task raw UnreadOutput failure e l
    by Exit.NotStarted (Line.Bytes line) x l e = the_cause dag task raw (NotStarted None) failure e x
    by Exit.NotStarted Line.TooMuch x l e = the_cause dag task raw TooMuchOutput failure e l
    by Exit.NotStarted Line.ReadFault x l e = the_cause dag task raw UnreadOutput failure e l
