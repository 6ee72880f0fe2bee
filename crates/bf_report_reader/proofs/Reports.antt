-- Texts of reports: how they begin, and that each is one report's.
use Rattle.std.proofs.Common.{◌≡◌, ◌≤◌, ◌<◌, ℕ, zero, suc, List, [], ◌∷◌, ◌++◌, length, get_or, drop, true, false, true≢false, Option, Some, None, codes, decimal, refl, sym, ap, ◌∙◌, ◌⊎◌, subst, arith, append_assoc, append-nil, inl, inr}
use Rattle.std.specs.Prelude.{IfSome, IfErr, Result, Ok, Err}
use Rattle.std.specs.List.{flat_map, enumerate_from, zip}
use Rattle.std.proofs.lemmas.List.{append_cancel_left}
use Rattle.std.proofs.lemmas.Option.{slice_get-get_or}
use Rattle.std.proofs.lemmas.Bool.{cases_Bool, eqb-false}
use Rattle.bf_plan.specs.Ids.{is_id_in}
use Rattle.bf_value.specs.declared.xval.Xval.{Xval}
use Rattle.bf_value.specs.declared.xval.Xval.TheVariants.{Nil}
use Rattle.bf_value.specs.Json.{json_of}
use Rattle.bf_value.proofs.TextLemmas.{IsUtf8-text_of, value_of_text_text_of}
use Rattle.bf_report.specs.declared.report.Version.{Version}
use Rattle.bf_report.specs.declared.report.InstanceReport.{InstanceReport}
use Rattle.bf_report.specs.declared.report.TaskReport.{TaskReport}
use Rattle.bf_report.specs.declared.report.RunReport.{RunReport}
use Rattle.bf_report.specs.declared.report.Report.{Report}
use Rattle.bf_report.specs.Report.{head_line, version_word_of, run_line, run_text, task_text, tasks_text, instance_line, item_line, pull_line, instance_text, report_text}
use Rattle.bf_report_reader.specs.declared.entry.Untried.{Untried}
use Rattle.bf_report_reader.specs.declared.entry.Entry.{Entry}
use Rattle.bf_report_reader.specs.declared.fault.ReportFault.{ReportFault}
use Rattle.bf_report_reader.specs.declared.part.GivenPart.{GivenPart}
use Rattle.bf_report_reader.specs.Open.{OpenTask}
use Rattle.bf_report_reader.specs.declared.open.OpenRun.{OpenRun}
use Rattle.bf_report_reader.specs.declared.beginning.ReportSoFar.{ReportSoFar}
use Rattle.bf_report_reader.specs.inner.Entries.{entry_text}
use Rattle.bf_report_reader.specs.Parts.{IsToldItem}
use Rattle.bf_report_reader.specs.inner.Parts.{pull_words, part_text}
use Rattle.bf_report_reader.specs.inner.Runs.{run_words}
use Rattle.bf_report_reader.specs.Rules.{IsShownReport}
use Rattle.bf_report_reader.specs.Beginning.{task_count_of, is_given_task, is_given_in, has_its_item_at, is_next_in, ids_with, put_task, with_entry}
use Rattle.bf_report_reader.specs.inner.Beginning.{opening_text, IsCountedIn, room, so_far, is_whole_in, takes_task, may_take_part_in, put_part}
use Rattle.bf_report_reader.specs.inner.Rules.{KeepsRules}
use Rattle.bf_report_reader.specs.inner.Steps.{IsNext}
use Rattle.bf_report_reader.specs.inner.Extensions.{head_words, SaysHead, start, Extends, IsKnown}
use Rattle.bf_report_reader.specs.Faults.{IsInLine, AreLines, Begins, IsOpening, IsReportText, IsFromOutside, Tells}
use Rattle.bf_report_reader.proofs.Splits.{cut_once, none_stands, tails}
use Rattle.bf_report_reader.proofs.Words.{id_lacks, id_short, version_plain, at_least}
use Rattle.bf_report_reader.proofs.Ruled.{report_ruled}
use Rattle.bf_report_reader.proofs.StepFacts.{entry_next, part_next}
use Rattle.bf_report_reader.proofs.Chains.{Goes, IsNextOf, known_goes, not_yet, end_of, one_report}
use Rattle.bf_report_reader.proofs.Paths.{head_of, starts, text_true}

-- ---- the head line

abbrev behind_head : Report → List ℕ
behind_head r = flat_map (run_text r.tasks) r.runs ++ end_of r

pub head_first : (r : Report) → report_text r ≡ (head_words (head_of r) ++ 10 ∷ []) ++ behind_head r
head_first r = append_assoc (head_words (head_of r) ++ 10 ∷ []) (flat_map (run_text r.tasks) r.runs) (end_of r)

head_in_line : (head : Version × List ℕ) → is_id_in head.1 ≡ true → IsInLine (head_words head)
head_in_line (Version.One, id) good = id_lacks 10 id (omega arith) good
head_in_line (Version.Two, id) good = id_lacks 10 id (omega arith) good

head_short : (head : Version × List ℕ) → is_id_in head.1 ≡ true → length (head_words head) ≤ 66_000
head_short (Version.One, id) good = omega (arith, id_short id good)
head_short (Version.Two, id) good = omega (arith, id_short id good)

pub head_goes : Goes [] (λ r text. SaysHead text (head_of r))
head_goes report more shown is = record {
  next = head_words (head_of report);
  more = behind_head report;
  text = head_first report;
  in_line = head_in_line (head_of report) shown.dag_id;
  short = omega (arith, head_short (head_of report) shown.dag_id, at_least (head_words (head_of report)));
  stands = (shown.dag_id, refl);
}

same_version : (one two : Version) → version_word_of one ≡ version_word_of two → one ≡ two
same_version Version.One Version.One e = refl
same_version Version.One Version.Two e = absurd (omega (arith, ap (λ l. get_or l 0 0) e))
same_version Version.Two Version.One e = absurd (omega (arith, ap (λ l. get_or l 0 0) e))
same_version Version.Two Version.Two e = refl

same_words : (head other : Version × List ℕ) → head_words head ≡ head_words other → head ≡ other
same_words head other e =
    let (version, id) = cut_once 32 (version_word_of head.0) (version_word_of other.0) head.1 other.1 (version_plain head.0) (version_plain other.0) (ap (drop 10) e) in
    let versions = same_version head.0 other.0 version in
    λ k. (versions k, id k)

-- texts that begin with one head line have one head
same_head : (head other : Version × List ℕ) (more rest : List ℕ) → is_id_in head.1 ≡ true → is_id_in other.1 ≡ true → (head_words head ++ 10 ∷ []) ++ more ≡ (head_words other ++ 10 ∷ []) ++ rest → head ≡ other
same_head head other more rest good too e =
    same_words head other (cut_once 10 (head_words head) (head_words other) more rest (head_in_line head good) (head_in_line other too)
    (sym (append_assoc (head_words head) (10 ∷ []) more) ∙ e ∙ append_assoc (head_words other) (10 ∷ []) rest)).0

pub start_text : (head : Version × List ℕ) → opening_text (so_far (start head)) ≡ head_words head ++ 10 ∷ []
start_text head = append-nil (head_words head ++ 10 ∷ [])

pub known_start : (head : Version × List ℕ) → is_id_in head.1 ≡ true → IsKnown (start head)
known_start head good report more shown is =
    let same : head_of report ≡ head = same_head (head_of report) head (behind_head report) more shown.dag_id good (sym (head_first report) ∙ is ∙ ap (λ l. l ++ more) (start_text head)) in
    subst (λ h. Extends (start h) report) same (starts report shown)

pub keeps_start : (head : Version × List ℕ) → is_id_in head.1 ≡ true → KeepsRules (start head)
keeps_start head good = record {
  counted = refl;
  small = omega arith;
  ruled = record { dag_id = good; ids = tt; distinct = λ i j d h k. absurd (omega (arith, k)); runs = tt; last = tt; few_runs = omega arith; rise = tt };
}

-- ---- one report to a text

-- no report's text goes on as another's
pub one_text_each : (one two : Report) (more : List ℕ) → IsShownReport one → IsShownReport two → report_text two ≡ report_text one ++ more → one ≡ two
one_text_each one two more shown too is =
    let same : head_of two ≡ head_of one = same_head (head_of two) (head_of one) (behind_head two) (behind_head one ++ more) too.dag_id shown.dag_id
    (sym (head_first two) ∙ is ∙ ap (λ l. l ++ more) (head_first one) ∙ append_assoc (head_words (head_of one) ++ 10 ∷ []) (behind_head one) more) in
    one_report (suc (room (start (head_of one)))) (start (head_of one)) one two more (omega arith) (keeps_start (head_of one) shown.dag_id) (starts one shown) (subst (λ h. Extends (start h) two) same (starts two too)) is

-- ---- a report is filled up

lacks_task : (runs : List RunReport) (ids : List (List ℕ)) (run : Option OpenRun) → IsCountedIn runs ids run → is_whole_in run ids ≡ false → (id : List ℕ) × (is_next_in runs ids run id ≡ true)
lacks_task runs ids None counted short = absurd (true≢false short)
lacks_task [] ids (Some o) counted short = absurd (eqb-false (task_count_of o) (length ids) short counted)
lacks_task (r ∷ rs) ids (Some o) counted short =
    let below : task_count_of o < length ids = omega (arith, counted, eqb-false (task_count_of o) (length ids) short) in
    (get_or ids (task_count_of o) [], text_true _ _ (slice_get-get_or ids (task_count_of o) [] below))

filled : (b : ReportSoFar) (id : List ℕ) → has_its_item_at b ≡ true → is_next_in b.runs b.tasks b.run id ≡ true
    → with_entry b id (Entry.Never Untried.NoStatus) ≡ Some (record b { tasks = ids_with b.runs b.tasks id; run = put_task b.run TaskReport.NoStatus })
unfolding with_entry
filled b id given next = rw (given, next) refl

-- an item where one is lacking
null_told : IsToldItem Nil
null_told = record { utf8 = IsUtf8-text_of Nil tt; says = value_of_text_text_of 64 Nil tt (omega arith) (omega arith); short = omega arith }

lacking : (version : Version) (run : Option OpenRun) → is_given_in version run ≡ false → may_take_part_in version run (GivenPart.Item Nil) ≡ true
lacking version None lacks = absurd (true≢false lacks)
lacking version (Some o) lacks = task_lacks o.task lacks
  where
    task_lacks : (task : Option OpenTask) → is_given_task version task ≡ false → takes_task version task (GivenPart.Item Nil) ≡ true
    task_lacks None lacks = absurd (true≢false lacks)
    task_lacks (Some t) lacks = rw lacks refl

-- what begins with a line more begins with the lines before it
begun : (b c : ReportSoFar) (text : List ℕ) → IsNext b text c → Begins (opening_text (so_far c)) → Begins (opening_text (so_far b))
begun b c text step rest = record {
  report = rest.report;
  more = (text ++ 10 ∷ []) ++ rest.more;
  shown = rest.shown;
  text_is = rest.text_is ∙ ap (λ l. l ++ rest.more) step.read ∙ append_assoc (opening_text (so_far b)) (text ++ 10 ∷ []) rest.more;
}

begins_by : (fuel : ℕ) (b : ReportSoFar) → room b < fuel → KeepsRules b → Begins (opening_text (so_far b))
begins_by zero b less keeps = absurd (omega (arith, less))
begins_by (suc fuel) b less keeps = elim (cases_Bool (has_its_item_at b)) [
  | inl given ↦ elim (cases_Bool (is_whole_in b.run b.tasks)) [
    | inl whole ↦ record { report = so_far b; more = end_of (so_far b); shown = report_ruled b keeps (rw (given, whole) refl); text_is = refl }
    | inr short ↦
        let (id, next) = lacks_task b.runs b.tasks b.run keeps.counted short in
        let e : Entry = Entry.Never Untried.NoStatus in
        let c : ReportSoFar = record b { tasks = ids_with b.runs b.tasks id; run = put_task b.run TaskReport.NoStatus } in
        let text = id ++ 32 ∷ entry_text e in
        let step = entry_next b c id text e keeps tt refl (filled b id given next) in
        begun b c text step (begins_by fuel c (omega (arith, less, step.shrinks)) step.kept)
  ]
  | inr lacks ↦
      let part : GivenPart = GivenPart.Item Nil in
      let c : ReportSoFar = record b { run = put_part b.run part } in
      let step = part_next b c (part_text part) part keeps null_told refl (rw (lacking b.version b.run lacks) refl) in
      begun b c (part_text part) step (begins_by fuel c (omega (arith, less, step.shrinks)) step.kept)
]

-- ---- whole lines

lines_append : (xs ys : List ℕ) → AreLines xs → AreLines ys → AreLines (xs ++ ys)
lines_append xs ys a (inl none) = subst AreLines (sym (append-nil xs) ∙ ap (λ l. xs ++ l) (sym none)) a
lines_append xs ys a (inr (front, is)) = inr (xs ++ front, ap (λ l. xs ++ l) is ∙ sym (append_assoc xs front (10 ∷ [])))

lines_flat : {X : Type 0} (f : X → List ℕ) (xs : List X) → ((x : X) → AreLines (f x)) → AreLines (flat_map f xs)
lines_flat f [] each = inl refl
lines_flat f (x ∷ xs) each = lines_append (f x) (flat_map f xs) (each x) (lines_flat f xs each)

item_lines : (item : Option Xval) → AreLines (item_line item)
item_lines None = inl refl
item_lines (Some v) = inr (codes "@item" ++ 32 ∷ json_of v, refl)

instance_lines : (id index : List ℕ) (x : InstanceReport) → AreLines (instance_text id index x)
instance_lines id index x =
    lines_append (instance_line id index x.result) (item_line x.item ++ flat_map pull_line x.pulls) (inr (_, refl))
    (lines_append (item_line x.item) (flat_map pull_line x.pulls) (item_lines x.item) (lines_flat pull_line x.pulls (λ p. inr (codes "@pull" ++ 32 ∷ pull_words p, refl))))

task_lines : (id : List ℕ) (t : TaskReport) → AreLines (task_text id t)
task_lines id TaskReport.NoStatus = inr (_, refl)
task_lines id TaskReport.Skipped = inr (_, refl)
task_lines id TaskReport.UpstreamFailed = inr (_, refl)
task_lines id (TaskReport.Ran x) = instance_lines id (codes "-1") x
task_lines id (TaskReport.Mapped xs) = lines_flat (λ (p : ℕ × InstanceReport). instance_text id (decimal p.0) p.1) (enumerate_from 0 xs) (λ p. instance_lines id (decimal p.0) p.1)

run_lines : (ids : List (List ℕ)) (r : RunReport) → AreLines (run_text ids r)
run_lines ids r = lines_append (run_line r) (tasks_text ids r.tasks) (inr (codes "@run" ++ 32 ∷ run_words (r.interval, r.state), refl)) (lines_flat (λ (p : List ℕ × TaskReport). task_text p.0 p.1) (zip ids r.tasks) (λ p. task_lines p.0 p.1))

pub opens : (b : ReportSoFar) → KeepsRules b → IsKnown b → IsOpening (opening_text (so_far b))
opens b keeps known = record {
  lines = lines_append (head_line b.version b.dag_id) (flat_map (run_text b.tasks) (so_far b).runs) (inr (head_words (b.version, b.dag_id), refl)) (lines_flat (run_text b.tasks) (so_far b).runs (run_lines b.tasks));
  begins = begins_by (suc (room b)) b (omega arith) keeps;
  unfinished = not_yet (opening_text (so_far b)) (IsNextOf b) (known_goes b keeps known);
}

pub opens_nothing : IsOpening []
opens_nothing =
    let begins = begins_by (suc (room (start (Version.One, codes "a")))) (start (Version.One, codes "a")) (omega arith) (keeps_start (Version.One, codes "a") refl) in
    record {
      lines = inl refl;
      begins = record { report = begins.report; more = report_text begins.report; shown = begins.shown; text_is = refl };
      unfinished = not_yet [] (λ r text. SaysHead text (head_of r)) head_goes;
    }

-- ---- faults

-- what ends in a byte does so in its last part, or that part is nothing
ends_behind : (s : ℕ) (xs ys front : List ℕ) → xs ++ ys ≡ front ++ s ∷ [] → (ys ≡ []) ⊎ ((back : List ℕ) × (ys ≡ back ++ s ∷ []))
ends_behind s [] ys front e = inr (front, e)
ends_behind s (x ∷ xs) ys [] e = inl (nothing_behind xs ys (tails x s (xs ++ ys) [] e).1)
  where
    nothing_behind : (one two : List ℕ) → one ++ two ≡ [] → two ≡ []
    nothing_behind [] two none = none
    nothing_behind (x ∷ one) two none = absurd (cc none)
ends_behind s (x ∷ xs) ys (f ∷ front) e = ends_behind s xs ys front (tails x f (xs ++ ys) (front ++ s ∷ []) e).1

-- an unfinished report with a piece of its next line is none
no_cut_report : (opening piece : List ℕ) → ¬ (IsReportText opening) → IsInLine piece → IsReportText (opening ++ piece) → ⊥
no_cut_report opening piece unfinished in_line whole =
    let r = whole.report in
    let last : List ℕ = codes "@end" ++ 32 ∷ decimal (length r.runs) in
    let ends : report_text r ≡ (opening_text r ++ last) ++ 10 ∷ [] = sym (append_assoc (opening_text r) last (10 ∷ [])) in
    elim (ends_behind 10 opening piece (opening_text r ++ last) (sym whole.text_is ∙ ends)) [
      | inl none ↦ unfinished (record { report = r; shown = whole.shown; text_is = whole.text_is ∙ ap (λ l. opening ++ l) none ∙ append-nil opening })
      | inr (back, is) ↦ none_stands 10 piece back [] in_line is
    ]

-- of the text of a report no line is told
pub no_fault : (bytes : List ℕ) (fault : ReportFault) → Tells bytes fault → IsReportText bytes → IsFromOutside fault
no_fault bytes (ReportFault.BadLine n) (inl told) whole =
    absurd (told.bad (record { report = whole.report; more = told.rest; shown = whole.shown; text_is = whole.text_is ∙ told.bytes_are ∙ sym (append_assoc told.opening (told.text ++ 10 ∷ []) told.rest) }))
no_fault bytes (ReportFault.BadLine n) (inr told) whole =
    let rest = told.first ∷ told.rest in
    let same = one_text_each told.report whole.report rest told.shown whole.shown (whole.text_is ∙ told.bytes_are) in
    let none : [] ≡ rest = append_cancel_left (report_text whole.report) [] rest
    (append-nil (report_text whole.report) ∙ whole.text_is ∙ told.bytes_are ∙ ap (λ (r : Report). report_text r ++ rest) same) in
    absurd (cc none)
no_fault bytes (ReportFault.TooLong n) told whole =
    absurd (told.bad (record { report = whole.report; more = told.rest; shown = whole.shown; text_is = whole.text_is ∙ told.bytes_are ∙ sym (append_assoc told.opening told.piece told.rest) }))
no_fault bytes ReportFault.Truncated told whole =
    absurd (no_cut_report told.opening told.piece told.opens.unfinished told.in_line (record { report = whole.report; shown = whole.shown; text_is = whole.text_is ∙ told.bytes_are }))
no_fault bytes ReportFault.Io told whole = inl refl
no_fault bytes ReportFault.OutOfMemory told whole = inr refl

pub reads_whole : (a : Option (List ℕ)) (fault : ReportFault) → IfSome a (λ bytes. Tells bytes fault) → IfSome a (λ bytes. IsReportText bytes → IsFromOutside fault)
reads_whole None fault told = tt
reads_whole (Some bytes) fault told = no_fault bytes fault told

pub reads_if_err : {X : Type 0} (a : Option (List ℕ)) (r : Result X ReportFault) → IfErr r (λ fault. IfSome a (λ bytes. Tells bytes fault)) → IfErr r (λ fault. IfSome a (λ bytes. IsReportText bytes → IsFromOutside fault))
reads_if_err a (Ok x) told = tt
reads_if_err a (Err fault) told = reads_whole a fault told
