-- Rows of cells, one task or run more at a time.
use Rattle.std.proofs.Common.{◌≡◌, ℕ, zero, suc, ◌+◌, ◌<◌, List, [], ◌∷◌, ◌++◌, length, drop, get_or, map, Some, refl, sym, ap, subst, ◌∙◌, append_assoc, append-nil, arith}
use Rattle.std.specs.List.{enumerate_from, filter_map, flat_map, join_with_byte}
use Rattle.std.specs.Prelude.{slice_get}
use Rattle.std.proofs.lemmas.List.{drop_more}
use Rattle.bf_core.specs.Terms.{Dag}
use Rattle.bf_report.specs.declared.report.TaskReport.{TaskReport}
use Rattle.bf_report.specs.declared.report.RunReport.{RunReport}
use Rattle.bf_report.specs.declared.report.Report.{Report}
use Rattle.bf_clear.specs.Entries.{value_in}
use Rattle.bf_report.specs.declared.report.InstanceReport.{InstanceReport}
use Rattle.bf_reason.specs.Letters.{ended_letter_of, instance_letter, letter_of}
use Rattle.bf_reason.specs.Settled.{results_of}
use Rattle.bf_reason.specs.Runs.{tasks_in, tasks_before, tasks_in_run}
use Rattle.bf_cells.specs.Cells.{instances_word, letters_from}
use Rattle.bf_cells.specs.inner.Rows.{word_behind}

-- what a task adds
pub letter_more : (dag : Dag) (report : Report) (run place : ℕ) (tasks : List TaskReport) (told : TaskReport) → place < length tasks → told ≡ get_or tasks place told →
    letters_from dag report run place (drop place tasks) ≡ letter_of dag report run place told ∷ letters_from dag report run (place + 1) (drop (place + 1) tasks)
letter_more dag report run place tasks told low is =
    let next : suc place ≡ place + 1 = omega arith in
    let rest = drop (place + 1) tasks in
    ap (letters_from dag report run place) (drop_more tasks place told low)
    ∙ ap (λ t. letter_of dag report run place t ∷ letters_from dag report run (suc place) rest) (sym is)
    ∙ ap (λ n. letter_of dag report run place told ∷ letters_from dag report run n rest) next

-- what a run adds
pub row_more : (f : ℕ × RunReport → List ℕ) (number : ℕ) (runs : List RunReport) (run : RunReport) → number < length runs → run ≡ get_or runs number run →
    f (number, run) ++ flat_map f (enumerate_from (number + 1) (drop (number + 1) runs)) ≡ flat_map f (enumerate_from number (drop number runs))
row_more f number runs run low is =
    sym (ap (λ xs. flat_map f (enumerate_from number xs)) (drop_more runs number run low)
    ∙ ap (λ r. f (number, r) ++ flat_map f (enumerate_from (number + 1) (drop (number + 1) runs))) (sym is))

there_at : {X : Type 0} (xs : List X) (k : ℕ) (x : X) → k < length xs → x ≡ get_or xs k x → slice_get xs k ≡ Some x
there_at [] k x low is = absurd (omega arith)
there_at (y ∷ ys) zero x low is = ap Some (sym is)
there_at (y ∷ ys) (suc k) x low is = there_at ys k x (omega arith) is

pub tasks_there : (report : Report) (runs : List RunReport) (number : ℕ) (run : RunReport) → runs ≡ report.runs → number < length runs → run ≡ get_or runs number run → run.tasks ≡ tasks_in report number
tasks_there report runs number run all low is = sym (ap tasks_in_run (ap (λ rs. slice_get rs number) (sym all) ∙ there_at runs number run low is))

pub tasks_before_next : (report : Report) (number : ℕ) → tasks_in report number ≡ tasks_before report (number + 1)
tasks_before_next report number = let next : suc number ≡ number + 1 = omega arith in ap (tasks_before report) next

-- ---- a row in its pieces

words_behind : (tasks : List TaskReport) → flat_map word_behind tasks ≡ flat_map (λ word. 32 ∷ word) (filter_map instances_word tasks)
words_behind [] = refl
words_behind (TaskReport.Mapped instances ∷ tasks) = ap (λ t. word_behind (TaskReport.Mapped instances) ++ t) (words_behind tasks)
words_behind (TaskReport.Ran instance ∷ tasks) = words_behind tasks
words_behind (TaskReport.NoStatus ∷ tasks) = words_behind tasks
words_behind (TaskReport.Skipped ∷ tasks) = words_behind tasks
words_behind (TaskReport.UpstreamFailed ∷ tasks) = words_behind tasks

joined_behind : (first : List ℕ) (words : List (List ℕ)) → join_with_byte 32 (first ∷ words) ≡ first ++ flat_map (λ word. 32 ∷ word) words
joined_behind first [] = sym (append-nil first)
joined_behind first (word ∷ words) = ap (λ t. first ++ 32 ∷ t) (joined_behind word words)

-- text, and behind it the letters, the words and the line's end
pub row_in_pieces : (before start end state letters : List ℕ) (tasks : List TaskReport) →
    (((before ++ (start ++ 32 ∷ (end ++ 32 ∷ (state ++ 32 ∷ [])))) ++ letters) ++ flat_map word_behind tasks) ++ 10 ∷ []
    ≡ before ++ (join_with_byte 32 (start ∷ end ∷ state ∷ letters ∷ filter_map instances_word tasks) ++ 10 ∷ [])
row_in_pieces before start end state letters tasks =
    let words = flat_map (λ word. 32 ∷ word) (filter_map instances_word tasks) in
    let e : join_with_byte 32 (letters ∷ filter_map instances_word tasks) ≡ letters ++ words = joined_behind letters (filter_map instances_word tasks) in
    let flat : (ws : List ℕ) → (((before ++ (start ++ 32 ∷ (end ++ 32 ∷ (state ++ 32 ∷ [])))) ++ letters) ++ ws) ++ 10 ∷ [] ≡ before ++ ((start ++ 32 ∷ (end ++ 32 ∷ (state ++ 32 ∷ (letters ++ ws)))) ++ 10 ∷ []) = λ ws. simp append_assoc in
    ap (λ ws. (((before ++ (start ++ 32 ∷ (end ++ 32 ∷ (state ++ 32 ∷ [])))) ++ letters) ++ ws) ++ 10 ∷ []) (words_behind tasks)
    ∙ flat words
    ∙ ap (λ t. before ++ ((start ++ 32 ∷ (end ++ 32 ∷ (state ++ 32 ∷ t))) ++ 10 ∷ [])) (sym e)

-- ---- the word of a task

letters_of : (instances : List InstanceReport) → map (λ ended. ended_letter_of ended.outcome ended.tries) (map (λ (instance : InstanceReport). instance.result) instances) ≡ map instance_letter instances
letters_of [] = refl
letters_of (instance ∷ instances) = ap (λ letters. instance_letter instance ∷ letters) (letters_of instances)

pub word_of : (told : TaskReport) (instances : List InstanceReport) → told ≡ TaskReport.Mapped instances →
    32 ∷ map (λ ended. ended_letter_of ended.outcome ended.tries) (results_of (value_in told)) ≡ word_behind told
word_of told instances is =
    subst (λ (t : TaskReport). 32 ∷ map (λ ended. ended_letter_of ended.outcome ended.tries) (results_of (value_in t)) ≡ word_behind t) (sym is) (ap (λ letters. 32 ∷ letters) (letters_of instances))
