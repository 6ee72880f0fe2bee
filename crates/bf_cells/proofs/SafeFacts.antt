-- Each byte of the cells is one that stands on a page as it is.
use Rattle.std.proofs.Common.{◌≡◌, ℕ, suc, ◌+◌, ◌/◌, ◌%◌, ◌<◌, ◌≤◌, ◌^◌, ◌==◌, ◌&&◌, ◌||◌, nat_le, nat_lt, Bool, true, false, if◌then◌else◌, List, [], ◌∷◌, ◌++◌, codes, decimal, length, map, All, is_some, ℤ, pos, refl, sym, ap₂, subst, ⊎_elim, arith, le-leb, leb-true, ltb-true, eqb-true}
use Rattle.std.specs.Int.{is_in_range}
use Rattle.std.specs.Char.{is_ascii_alphanumeric}
use Rattle.std.specs.List.{AllByRecursion, AllPass, enumerate_from, filter_map, flat_map, join_with_byte, list_all}
use Rattle.std.specs.Str.{byte, bytes_eq}
use Rattle.std.proofs.lemmas.Bool.{and_parts, cond_both, or_cases, or_left, or_right}
use Rattle.std.proofs.lemmas.Fmt.{decimal_by_steps}
use Rattle.std.proofs.lemmas.List.Elements.{All-nil, All-cons, All-append, All-from_recursion}
use Rattle.std.proofs.lemmas.List.Sums.{AllPass-from_list_all}
use Rattle.std.proofs.lemmas.Slice.Eq.{bytes_eq-Decides}
use Rattle.jiff_core.specs.Calendar.{days_in_month}
use Rattle.jiff_core.proofs.CalendarLemmas.{days_in_month_bounds}
use Rattle.bf_core.specs.Terms.{Dag, Outcome, task_of}
use Rattle.bf_moment.specs.Long.{IsTextOfMoment, four_from, is_date, is_long, is_long_of, is_time, two_from}
use Rattle.bf_moment.specs.Moment.{IsShown, IsWhole, date_parts_text, moment_text, time_parts_text}
use Rattle.bf_page.specs.Safe.{is_cell_byte}
use Rattle.bf_plan.specs.Ids.{is_id_in, is_id_byte_in}
use Rattle.bf_report.specs.declared.report.InstanceReport.{InstanceReport}
use Rattle.bf_report.specs.declared.report.TaskReport.{TaskReport}
use Rattle.bf_report.specs.declared.report.RunReport.{RunReport}
use Rattle.bf_report.specs.declared.report.Report.{Report}
use Rattle.bf_report.specs.Report.{line, run_state_word_of}
use Rattle.bf_xcom.specs.declared.values.RunState.{RunState}
use Rattle.bf_reason.specs.declared.cause.StateCause.{StateCause}
use Rattle.bf_reason.specs.Causes.{cause_of}
use Rattle.bf_reason.specs.Reasons.{reason}
use Rattle.bf_reason.specs.Letters.{before_at, digit_for, ended_letter_of, expanded_letter, first_letter_of, foreign_letter, instance_letter, letter_for, letter_of, seen_at}
use Rattle.bf_cells.specs.Cells.{cells_text, instances_word, letters_from, row}
use Rattle.bf_cells.specs.Whole.{HasWholeMoments}

abbrev Cell : ℕ → Type 0
Cell b = is_cell_byte b ≡ true

cells : (text : List ℕ) → list_all is_cell_byte text ≡ true → All Cell text
cells text e = AllPass-from_list_all is_cell_byte text e

-- ---- bytes

in_range : (low high b : ℕ) → low ≤ b → b ≤ high → is_in_range low high b ≡ true
in_range low high b l h = ap₂ (λ x y. x && y) (le-leb low b l) (le-leb b high h)

alphanumeric : (b : ℕ) → is_ascii_alphanumeric b ≡ true → Cell b
alphanumeric b e = or_left _ _ e

digit : (b : ℕ) → 48 ≤ b → b ≤ 57 → Cell b
digit b l h = alphanumeric b (or_left _ _ (or_left _ _ (in_range 48 57 b l h)))

equal : (n b : ℕ) → Cell n → (b == n) ≡ true → Cell b
equal n b cell e = subst Cell (sym (eqb-true b n e)) cell

id_byte : (b : ℕ) → is_id_byte_in b ≡ true → Cell b
id_byte b e =
    let lower = is_in_range 97 122 b in let upper = is_in_range 65 90 b in let digits = is_in_range 48 57 b in
    ⊎_elim (λ more. ⊎_elim (λ more. ⊎_elim (λ more. ⊎_elim (λ more. ⊎_elim
    (λ is. alphanumeric b (or_right (digits || upper) lower is))
    (λ is. alphanumeric b (or_left (digits || upper) lower (or_right digits upper is)))
    (or_cases lower upper more))
    (λ is. alphanumeric b (or_left (digits || upper) lower (or_left digits upper is)))
    (or_cases (lower || upper) digits more))
    (equal 45 b refl)
    (or_cases (lower || upper || digits) (b == 45) more))
    (equal 46 b refl)
    (or_cases (lower || upper || digits || b == 45) (b == 46) more))
    (equal 95 b refl)
    (or_cases (lower || upper || digits || b == 45 || b == 46) (b == 95) e)

id_bytes : (text : List ℕ) → list_all is_id_byte_in text ≡ true → All Cell text
id_bytes [] e = All-nil Cell
id_bytes (b ∷ bs) e = let (first, rest) = and_parts (is_id_byte_in b) (list_all is_id_byte_in bs) e in All-cons Cell b bs (id_byte b first) (id_bytes bs rest)

id_cells : (text : List ℕ) → is_id_in text ≡ true → All Cell text
id_cells text e = id_bytes text (and_parts (nat_le 1 (length text) && nat_le (length text) 250) (list_all is_id_byte_in text) e).1

decimal_cells : (n : ℕ) → n < 2 ^ 64 → All Cell (decimal n)
decimal_cells n small = decimal_by_steps (λ _ digits. All Cell digits)
    (λ m low. All-cons Cell (48 + m) [] (digit (48 + m) (omega arith) (omega arith)) (All-nil Cell))
    (λ m digits _ front. All-append Cell digits ((48 + m % 10) ∷ []) front (All-cons Cell (48 + m % 10) [] (digit (48 + m % 10) (omega arith) (omega arith)) (All-nil Cell)))
    n small

-- ---- moments

date_cells : (year month day hour minute second : ℕ) → year ≤ 9_999 → month < 100 → day < 100 → hour < 100 → minute < 100 → second < 100 →
    All Cell (date_parts_text year month day ++ 84 ∷ time_parts_text hour minute second ++ 90 ∷ [])
date_cells year month day hour minute second y mo d h mi s =
    let n : (b : ℕ) → b ≤ 9 → Cell (48 + b) = λ b low. digit (48 + b) (omega arith) (omega arith) in
    All-from_recursion Cell (date_parts_text year month day ++ 84 ∷ time_parts_text hour minute second ++ 90 ∷ []) (
      n (year / 1_000) (omega arith),
      (
        n (year / 100 % 10) (omega arith),
        (
          n (year / 10 % 10) (omega arith),
          (
            n (year % 10) (omega arith),
            (
              refl,
              (
                n (month / 10) (omega arith),
                (
                  n (month % 10) (omega arith),
                  (
                    refl,
                    (
                      n (day / 10) (omega arith),
                      (
                        n (day % 10) (omega arith),
                        (
                          refl,
                          (
                            n (hour / 10) (omega arith),
                            (
                              n (hour % 10) (omega arith),
                              (
                                refl,
                                (
                                  n (minute / 10) (omega arith),
                                  (
                                    n (minute % 10) (omega arith),
                                    (
                                      refl,
                                      (n (second / 10) (omega arith), (n (second % 10) (omega arith), (refl, tt))),
                                    ),
                                  ),
                                ),
                              ),
                            ),
                          ),
                        ),
                      ),
                    ),
                  ),
                ),
              ),
            ),
          ),
        ),
      ),
    )

of_numbers : (text : List ℕ) (year month day hour minute second : ℕ) → is_long_of text year month day hour minute second ≡ true → All Cell text
of_numbers text year month day hour minute second e =
    let spelled = date_parts_text year month day ++ 84 ∷ time_parts_text hour minute second ++ 90 ∷ [] in
    let y = nat_le year 9_999 in let m1 = nat_le 1 month in let m12 = nat_le month 12 in let d1 = nat_le 1 day in let dm = nat_le day (days_in_month (pos year) month) in
    let h = nat_lt hour 24 in let mi = nat_lt minute 60 in let s = nat_lt second 60 in
    let (whole, time) = and_parts (bytes_eq text spelled && is_date year month day) (is_time hour minute second) e in
    let (same, date) = and_parts (bytes_eq text spelled) (is_date year month day) whole in
    let (months, days) = and_parts (y && m1 && m12 && d1) dm date in
    let (months, _) = and_parts (y && m1 && m12) d1 months in
    let (years, months) = and_parts (y && m1) m12 months in
    let (years, _) = and_parts y m1 years in
    let (hours, seconds) = and_parts (h && mi) s time in
    let (hours, minutes) = and_parts h mi hours in
    subst (All Cell) (sym ((bytes_eq-Decides text spelled).0 same))
    (date_cells year month day hour minute second (leb-true _ _ years) (omega (arith, leb-true _ _ months)) (omega (arith, leb-true _ _ days, days_in_month_bounds (pos year) month))
    (omega (arith, ltb-true _ _ hours)) (omega (arith, ltb-true _ _ minutes)) (omega (arith, ltb-true _ _ seconds)))

long_cells : (text : List ℕ) → is_long text ≡ true → All Cell text
unfolding is_long
long_cells text e = of_numbers text (four_from text 0) (two_from text 5) (two_from text 8) (two_from text 11) (two_from text 14) (two_from text 17) e

-- ---- letters

first_plain : (first : Bool) → is_ascii_alphanumeric (if first then byte "s" else byte "r") ≡ true
first_plain true = refl
first_plain false = refl

ended_plain : (outcome : Outcome) (tries : ℕ) → is_ascii_alphanumeric (ended_letter_of outcome tries) ≡ true
ended_plain (Outcome.Success value) tries = first_plain (tries == 1)
ended_plain Outcome.Failed tries = refl
ended_plain Outcome.Skipped tries = refl

digit_plain : (outcome : Outcome) → is_ascii_alphanumeric (digit_for (byte "1") outcome) ≡ true
digit_plain (Outcome.Success value) = refl
digit_plain Outcome.Failed = refl
digit_plain Outcome.Skipped = refl

skipped_plain : (expanded : Bool) (cause : StateCause) → is_ascii_alphanumeric (letter_for expanded cause TaskReport.Skipped) ≡ true
skipped_plain expanded StateCause.NotFollowed = refl
skipped_plain expanded _ = refl

upstream_failed_plain : (expanded : Bool) (cause : StateCause) → is_ascii_alphanumeric (letter_for expanded cause TaskReport.UpstreamFailed) ≡ true
upstream_failed_plain expanded StateCause.RuleFails = refl
upstream_failed_plain expanded _ = refl

no_status_plain : (expanded : Bool) (cause : StateCause) → is_ascii_alphanumeric (letter_for expanded cause TaskReport.NoStatus) ≡ true
no_status_plain expanded StateCause.BranchIsBlocked = refl
no_status_plain expanded _ = refl

ran_plain : (expanded : Bool) (cause : StateCause) (instance : InstanceReport) → is_ascii_alphanumeric (letter_for expanded cause (TaskReport.Ran instance)) ≡ true
ran_plain true (StateCause.Runs count) instance = digit_plain instance.result.outcome
ran_plain false (StateCause.Runs count) instance = ended_plain instance.result.outcome instance.result.tries
ran_plain expanded _ instance = digit_plain instance.result.outcome

one_of_three : (a b : Bool) → is_ascii_alphanumeric (if a then byte "8" else (if b then byte "9" else byte "7")) ≡ true
one_of_three true b = refl
one_of_three false true = refl
one_of_three false false = refl

one_of_four : (a b c : Bool) → is_ascii_alphanumeric (if a then byte "F" else (if b then byte "R" else (if c then byte "S" else byte "X"))) ≡ true
one_of_four true b c = refl
one_of_four false true c = refl
one_of_four false false true = refl
one_of_four false false false = refl

mapped_plain : (expanded : Bool) (cause : StateCause) (instances : List InstanceReport) → is_ascii_alphanumeric (letter_for expanded cause (TaskReport.Mapped instances)) ≡ true
mapped_plain expanded (StateCause.Runs count) instances =
    cond_both (expanded && length instances == count) (expanded_letter instances) (foreign_letter (TaskReport.Mapped instances)) (λ letter. is_ascii_alphanumeric letter ≡ true)
    (λ _. one_of_four (first_letter_of instances == byte "f") (first_letter_of instances == byte "r") (first_letter_of instances == byte "s")) (λ _. one_of_three (first_letter_of instances == byte "f") (first_letter_of instances == byte "x"))
mapped_plain expanded _ instances = one_of_three (first_letter_of instances == byte "f") (first_letter_of instances == byte "x")

letter_plain : (expanded : Bool) (cause : StateCause) (task : TaskReport) → is_ascii_alphanumeric (letter_for expanded cause task) ≡ true
letter_plain expanded cause TaskReport.NoStatus = no_status_plain expanded cause
letter_plain expanded cause TaskReport.Skipped = skipped_plain expanded cause
letter_plain expanded cause TaskReport.UpstreamFailed = upstream_failed_plain expanded cause
letter_plain expanded cause (TaskReport.Ran instance) = ran_plain expanded cause instance
letter_plain expanded cause (TaskReport.Mapped instances) = mapped_plain expanded cause instances

letters_cells : (dag : Dag) (report : Report) (run place : ℕ) (tasks : List TaskReport) → All Cell (letters_from dag report run place tasks)
letters_cells dag report run place [] = All-nil Cell
letters_cells dag report run place (told ∷ rest) =
    All-cons Cell (letter_of dag report run place told) (letters_from dag report run (suc place) rest)
    (alphanumeric (letter_of dag report run place told) (letter_plain (is_some (task_of dag place).expand) (cause_of (reason dag run (seen_at report run) (before_at report run place) place)) told))
    (letters_cells dag report run (suc place) rest)

results_cells : (instances : List InstanceReport) → All Cell (map instance_letter instances)
results_cells [] = All-nil Cell
results_cells (instance ∷ rest) =
    All-cons Cell (instance_letter instance) (map instance_letter rest) (alphanumeric (instance_letter instance) (ended_plain instance.result.outcome instance.result.tries)) (results_cells rest)

-- ---- lines

words_cells : (tasks : List TaskReport) → AllByRecursion (All Cell) (filter_map instances_word tasks)
words_cells [] = tt
words_cells (TaskReport.Mapped instances ∷ tasks) = (results_cells instances, words_cells tasks)
words_cells (TaskReport.Ran instance ∷ tasks) = words_cells tasks
words_cells (TaskReport.NoStatus ∷ tasks) = words_cells tasks
words_cells (TaskReport.Skipped ∷ tasks) = words_cells tasks
words_cells (TaskReport.UpstreamFailed ∷ tasks) = words_cells tasks

joined_cells : (fields : List (List ℕ)) → AllByRecursion (All Cell) fields → All Cell (join_with_byte 32 fields)
joined_cells [] each = All-nil Cell
joined_cells (field ∷ []) each = each.0
joined_cells (field ∷ next ∷ rest) each =
    All-append Cell field (32 ∷ join_with_byte 32 (next ∷ rest)) each.0 (All-cons Cell 32 (join_with_byte 32 (next ∷ rest)) refl (joined_cells (next ∷ rest) each.1))

line_cells : (fields : List (List ℕ)) → AllByRecursion (All Cell) fields → All Cell (line fields)
line_cells fields each = All-append Cell (join_with_byte 32 fields) (10 ∷ []) (joined_cells fields each) (All-cons Cell 10 [] refl (All-nil Cell))

state_cells : (state : RunState) → All Cell (run_state_word_of state)
state_cells RunState.Success = cells (codes "success") refl
state_cells RunState.Failed = cells (codes "failed") refl

-- what is known of texts of moments
module _ (long : (text : List ℕ) → IsTextOfMoment text → is_long text ≡ true) where
  moment_cells : (n : ℤ) → IsShown n → IsWhole n → All Cell (moment_text n)
  moment_cells n shown whole = long_cells (moment_text n) (long (moment_text n) (record { moment = n; shown = shown; whole = whole; is_text = refl }))

  row_cells : (dag : Dag) (report : Report) (number : ℕ) (run : RunReport) → IsWhole run.interval.start.nanosecond → IsWhole run.interval.end.nanosecond → All Cell (row dag report number run)
  row_cells dag report number run start end =
      line_cells (moment_text run.interval.start.nanosecond ∷ moment_text run.interval.end.nanosecond ∷ run_state_word_of run.state ∷ letters_from dag report number 0 run.tasks ∷ filter_map instances_word run.tasks)
      (moment_cells run.interval.start.nanosecond run.shown_start start, (moment_cells run.interval.end.nanosecond run.shown_end end, (state_cells run.state, (letters_cells dag report number 0 run.tasks, words_cells run.tasks))))

  rows_cells : (dag : Dag) (report : Report) (number : ℕ) (runs : List RunReport) → HasWholeMoments runs → All Cell (flat_map (λ pair. row dag report pair.0 pair.1) (enumerate_from number runs))
  rows_cells dag report number [] whole = All-nil Cell
  rows_cells dag report number (run ∷ runs) whole =
      All-append Cell (row dag report number run) (flat_map (λ pair. row dag report pair.0 pair.1) (enumerate_from (number + 1) runs))
      (row_cells dag report number run whole.0.0 whole.0.1) (rows_cells dag report (number + 1) runs whole.1)

  pub all_cells : (dag : Dag) (report : Report) (bytes : ℕ) → is_id_in report.dag_id ≡ true → HasWholeMoments report.runs → length dag.tasks < 2 ^ 64 → length report.runs < 2 ^ 64 → bytes < 2 ^ 64 → AllPass is_cell_byte (cells_text dag report bytes)
  all_cells dag report bytes id whole tasks runs small =
      All-append Cell (line (codes "@cells" ∷ codes "1" ∷ report.dag_id ∷ decimal (length dag.tasks) ∷ decimal (length report.runs) ∷ decimal bytes ∷ [])) _
      (line_cells (codes "@cells" ∷ codes "1" ∷ report.dag_id ∷ decimal (length dag.tasks) ∷ decimal (length report.runs) ∷ decimal bytes ∷ [])
      (cells (codes "@cells") refl, (cells (codes "1") refl, (id_cells report.dag_id id, (decimal_cells (length dag.tasks) tasks, (decimal_cells (length report.runs) runs, (decimal_cells bytes small, tt)))))))
      (rows_cells dag report 0 report.runs whole)
