-- Lines of JSON, piece by piece.
use Rattle.std.proofs.Common.{◌≡◌, ℕ, ◌+◌, ◌<◌, true, List, [], ◌∷◌, ◌++◌, Option, Some, negsuc, codes, decimal, length, take, get_or, refl, sym, ap, ◌∙◌, append_assoc, arith}
use Rattle.std.proofs.lemmas.List.{take_more}
use Rattle.std.proofs.lemmas.Fmt.{decimal_digit}
use Rattle.std.proofs.Math.ListN.{length-take}
use Rattle.json.specs.Print.{quoted}
use Rattle.json.proofs.OnLiterals.{json_on_literals}
use Rattle.serde_json.specs.Data.{Data, number, string, object, Num, unsigned, negative, Members, no_members, member}
use Rattle.serde_json.specs.Written.{compact_text, members_text, number_text}
use Rattle.bf_value.specs.declared.xval.Xval.{Xval}
use Rattle.bf_value.specs.Json.{json_of}
use Rattle.bf_moment.specs.Moment.{moment_text}
use Rattle.bf_xcom.specs.declared.values.TaskResult.{TaskResult}
use Rattle.bf_xcom.specs.Pulls.{pushed_by}
use Rattle.bf_report.specs.declared.report.Pull.{Pull}
use Rattle.bf_report.specs.declared.report.InstanceReport.{InstanceReport}
use Rattle.bf_report.specs.declared.report.TaskReport.{TaskReport}
use Rattle.bf_report.specs.declared.report.RunReport.{RunReport}
use Rattle.bf_report.specs.Report.{state_word, run_state_word_of}
use Rattle.bf_report.proofs.ReportFacts.{numbered_more}
use Rattle.bf_show.specs.declared.key.Key.{Key}
use Rattle.bf_show.specs.declared.key.Key.TheVariants.{End, RunState, Task, Index, State, Tries, Value, Item, Pulls}
use Rattle.bf_show.specs.JsonLines.{line, run_members, value_members, pulled_data, pull_members, pulls_members, ended_members, instance_members, no_index, untried_members, mapped_lines, tasks_lines}
use Rattle.bf_show.specs.Pieces.{key_word, key_text, run_start}
use Rattle.bf_show.specs.inner.Pieces.{line_end}

-- ---- members

-- no name of a member has a character that is escaped
pub key_written : (key : Key) → 44 ∷ 34 ∷ (key_word key ++ 34 ∷ 58 ∷ []) ≡ key_text key
unfolding json_on_literals key_text
key_written End = refl
key_written RunState = refl
key_written Task = refl
key_written Index = refl
key_written State = refl
key_written Tries = refl
key_written Value = refl
key_written Item = refl
key_written Pulls = refl

one_member : (q t m e : List ℕ) → (44 ∷ (q ++ 58 ∷ (t ++ m))) ++ e ≡ (44 ∷ (q ++ 58 ∷ [])) ++ (t ++ (m ++ e))
one_member q t m e = simp append_assoc

-- a member that isn't the first, and what stands behind it
member_end : (key : Key) (d : Data) (ms : Members) → line_end (member (key_word key) d ms) ≡ key_text key ++ (compact_text d ++ line_end ms)
unfolding key_text line_end
member_end key d ms = one_member (quoted (key_word key)) (compact_text d) (members_text true ms) (10 ∷ [])

first_members : (a s e t r w m z : List ℕ) → (123 ∷ (a ++ 58 ∷ (s ++ (44 ∷ (e ++ 58 ∷ (t ++ (44 ∷ (r ++ 58 ∷ (w ++ m))))))))) ++ z ≡ (123 ∷ (a ++ 58 ∷ (s ++ ((44 ∷ (e ++ 58 ∷ [])) ++ (t ++ ((44 ∷ (r ++ 58 ∷ [])) ++ w)))))) ++ (m ++ z)
first_members a s e t r w m z = simp append_assoc

-- the members of a run, and those behind
start_end : (run : RunReport) (ms : Members) → line (run_members run ms) ≡ run_start run ++ line_end ms
unfolding key_text line_end run_start
start_end run ms =
    first_members (quoted (codes "run")) (quoted (moment_text run.interval.start.nanosecond)) (quoted (codes "end")) (quoted (moment_text run.interval.end.nanosecond)) (quoted (codes "run_state")) (quoted (run_state_word_of run.state)) (members_text true ms) (10 ∷ [])

opening : codes "{\"run\":" ≡ 123 ∷ (quoted (codes "run") ++ 58 ∷ [])
unfolding json_on_literals
opening = refl

six_in_a_row : (q a b c d e : List ℕ) → (((((123 ∷ (q ++ 58 ∷ [])) ++ a) ++ b) ++ c) ++ d) ++ e ≡ 123 ∷ (q ++ 58 ∷ (a ++ (b ++ (c ++ (d ++ e)))))
six_in_a_row q a b c d e = simp append_assoc

-- what the lines of a run begin with
pub start_made : (run : RunReport) → ((((codes "{\"run\":" ++ quoted (moment_text run.interval.start.nanosecond)) ++ key_text End) ++ quoted (moment_text run.interval.end.nanosecond)) ++ key_text RunState) ++ quoted (run_state_word_of run.state) ≡ run_start run
unfolding run_start
start_made run =
    ap (λ s. ((((s ++ quoted (moment_text run.interval.start.nanosecond)) ++ key_text End) ++ quoted (moment_text run.interval.end.nanosecond)) ++ key_text RunState) ++ quoted (run_state_word_of run.state)) opening
    ∙ six_in_a_row (quoted (codes "run")) (quoted (moment_text run.interval.start.nanosecond)) (key_text End) (quoted (moment_text run.interval.end.nanosecond)) (key_text RunState) (quoted (run_state_word_of run.state))

-- words without a character that is escaped
pub no_status_string : codes "\"no_status\"" ≡ quoted (codes "no_status")
unfolding json_on_literals
no_status_string = refl

pub skipped_string : codes "\"skipped\"" ≡ quoted (codes "skipped")
unfolding json_on_literals
skipped_string = refl

pub upstream_failed_string : codes "\"upstream_failed\"" ≡ quoted (codes "upstream_failed")
unfolding json_on_literals
upstream_failed_string = refl

-- ---- behind a text

pub three_in_a_row : (t a b c : List ℕ) → ((t ++ a) ++ b) ++ c ≡ t ++ (a ++ (b ++ c))
three_in_a_row t a b c = append_assoc (t ++ a) b c ∙ append_assoc t a (b ++ c)

-- one member more
member_more : (t : List ℕ) (key : Key) (d : Data) (ms : Members) → ((t ++ key_text key) ++ compact_text d) ++ line_end ms ≡ t ++ line_end (member (key_word key) d ms)
member_more t key d ms = three_in_a_row t (key_text key) (compact_text d) (line_end ms) ∙ ap (λ s. t ++ s) (sym (member_end key d ms))

pub value_more : (t : List ℕ) (key : Key) (value : Xval) (ms : Members) → ((t ++ key_text key) ++ json_of value) ++ line_end ms ≡ t ++ line_end (value_members (key_word key) (Some value) ms)
value_more t key value ms = member_more t key _ ms

-- how an instance ended, and its tries
pub ended_more : (t word : List ℕ) (tries : ℕ) (ms : Members) → ((((t ++ key_text State) ++ quoted word) ++ key_text Tries) ++ decimal tries) ++ line_end ms ≡ t ++ line_end (member (codes "state") (string word) (member (codes "tries") (number (unsigned tries)) ms))
ended_more t word tries ms =
    member_more ((t ++ key_text State) ++ quoted word) Tries (number (unsigned tries)) ms ∙ member_more t State (string word) (member (codes "tries") (number (unsigned tries)) ms)

-- the members of an instance by its parts
abbrev pub ended_by : TaskResult → Option Xval → List Pull → Members
ended_by result item pulls =
    member (codes "state") (string (state_word result.outcome)) (member (codes "tries") (number (unsigned result.tries)) (value_members (codes "value") (pushed_by result.outcome) (value_members (codes "item") item (pulls_members pulls))))

-- a task's line, behind what its run has
task_more : (t : List ℕ) (run : RunReport) (id : List ℕ) (ms : Members) → (t ++ (run_start run ++ (key_text Task ++ quoted id))) ++ line_end ms ≡ t ++ line (run_members run (member (codes "task") (string id) ms))
task_more t run id ms =
    append_assoc t (run_start run ++ (key_text Task ++ quoted id)) (line_end ms)
    ∙ ap (λ s. t ++ s) (append_assoc (run_start run) (key_text Task ++ quoted id) (line_end ms) ∙ ap (λ s. run_start run ++ s) (append_assoc (key_text Task) (quoted id) (line_end ms) ∙ sym (member_end Task (string id) ms)) ∙ sym (start_end run (member (codes "task") (string id) ms)))

pub line_ends : codes "}\n" ≡ line_end no_members
unfolding line_end
line_ends = refl

-- what a line begins with, and a map index, before these members
pub index_more : (t : List ℕ) (run : RunReport) (id : List ℕ) (index : Num) (ms : Members) → ((t ++ (run_start run ++ (key_text Task ++ quoted id))) ++ (key_text Index ++ number_text index)) ++ line_end ms ≡ t ++ line (run_members run (member (codes "task") (string id) (member (codes "index") (number index) ms)))
index_more t run id index ms =
    ap (λ s. s ++ line_end ms) (sym (append_assoc (t ++ (run_start run ++ (key_text Task ++ quoted id))) (key_text Index) (number_text index)))
    ∙ member_more (t ++ (run_start run ++ (key_text Task ++ quoted id))) Index (number index) ms
    ∙ task_more t run id (member (codes "index") (number index) ms)

no_tries : codes "0}\n" ≡ number_text (unsigned 0) ++ line_end no_members
unfolding line_end
no_tries = ap (λ s. s ++ codes "}\n") (sym (decimal_digit 0 (omega arith)))

-- no tries, and the end of the line
untried_end : (t : List ℕ) → (t ++ key_text Tries) ++ codes "0}\n" ≡ t ++ line_end (member (codes "tries") (number (unsigned 0)) no_members)
untried_end t =
    ap (λ s. (t ++ key_text Tries) ++ s) no_tries ∙ sym (append_assoc (t ++ key_text Tries) (number_text (unsigned 0)) (line_end no_members))
    ∙ member_more t Tries (number (unsigned 0)) no_members

pub untried_more : (t : List ℕ) (run : RunReport) (id word : List ℕ) → (((((t ++ (run_start run ++ (key_text Task ++ quoted id))) ++ (key_text Index ++ number_text no_index)) ++ key_text State) ++ quoted word) ++ key_text Tries) ++ codes "0}\n" ≡ t ++ line (untried_members run id word)
untried_more t run id word =
    let start = (t ++ (run_start run ++ (key_text Task ++ quoted id))) ++ (key_text Index ++ number_text no_index) in
    let tries = member (codes "tries") (number (unsigned 0)) no_members in
    untried_end ((start ++ key_text State) ++ quoted word) ∙ member_more start State (string word) tries
    ∙ index_more t run id no_index (member (codes "state") (string word) tries)

pub only_more : (t : List ℕ) (run : RunReport) (id : List ℕ) (instance : InstanceReport) → ((t ++ (run_start run ++ (key_text Task ++ quoted id))) ++ (key_text Index ++ number_text no_index)) ++ line_end (ended_members instance) ≡ t ++ line (instance_members run id no_index instance)
only_more t run id instance = index_more t run id no_index (ended_members instance)

pub instance_more : (t : List ℕ) (run : RunReport) (id : List ℕ) (index : Num) (instance : InstanceReport) → (((t ++ (run_start run ++ (key_text Task ++ quoted id))) ++ key_text Index) ++ number_text index) ++ line_end (ended_members instance) ≡ t ++ line (instance_members run id index instance)
instance_more t run id index instance =
    member_more (t ++ (run_start run ++ (key_text Task ++ quoted id))) Index (number index) (ended_members instance)
    ∙ task_more t run id (member (codes "index") (number index) (ended_members instance))

-- ---- one after another

pub mapped_more : (t : List ℕ) (run : RunReport) (id : List ℕ) (instances : List InstanceReport) (i : ℕ) (x : InstanceReport) → i < length instances → x ≡ get_or instances i x → (t ++ mapped_lines run id (take i instances)) ++ line (instance_members run id (unsigned i) x) ≡ t ++ mapped_lines run id (take (i + 1) instances)
mapped_more t run id instances i x inside e =
    let f : ℕ × InstanceReport → List ℕ = λ p. line (instance_members run id (unsigned p.0) p.1) in
    let all : take (i + 1) instances ≡ take i instances ++ x ∷ [] = take_more instances i x inside ∙ ap (λ y. take i instances ++ y ∷ []) (sym e) in
    let size : length (take i instances) ≡ i = omega (arith, length-take i instances) in
    append_assoc t (mapped_lines run id (take i instances)) (f (i, x)) ∙ ap (λ s. t ++ s) (sym (numbered_more f 0 i (take i instances) x (omega arith))) ∙ ap (λ xs. t ++ mapped_lines run id xs) (sym all)

pub no_ids : (run : RunReport) (ids : List (List ℕ)) (tasks : List TaskReport) → length ids ≡ 0 → tasks_lines run ids tasks ≡ []
no_ids run [] tasks e = refl
no_ids run (id ∷ ids) tasks e = absurd (omega arith)

pub no_tasks : (run : RunReport) (ids : List (List ℕ)) (tasks : List TaskReport) → length tasks ≡ 0 → tasks_lines run ids tasks ≡ []
no_tasks run [] [] e = refl
no_tasks run (id ∷ ids) [] e = refl
no_tasks run ids (task ∷ tasks) e = absurd (omega arith)

-- ---- pulls

-- what stands before one more pull
pub pull_more : (t : List ℕ) (pull : Pull) (pulls : List Pull) → ((t ++ 44 ∷ []) ++ (quoted pull.task ++ 58 ∷ compact_text (pulled_data pull.value))) ++ members_text true (pull_members pulls) ≡ t ++ members_text true (pull_members (pull ∷ pulls))
pull_more t pull pulls = between t (quoted pull.task) (compact_text (pulled_data pull.value)) (members_text true (pull_members pulls))
  where
    between : (t q v m : List ℕ) → ((t ++ 44 ∷ []) ++ (q ++ 58 ∷ v)) ++ m ≡ t ++ (44 ∷ (q ++ 58 ∷ (v ++ m)))
    between t q v m = simp append_assoc

-- all pulls as one member, and the end of the line
pub pulls_more : (t : List ℕ) (pull : Pull) (pulls : List Pull) → ((((t ++ key_text Pulls) ++ codes "{") ++ (quoted pull.task ++ 58 ∷ compact_text (pulled_data pull.value))) ++ members_text true (pull_members pulls)) ++ codes "}\n" ≡ t ++ line_end (pulls_members (pull ∷ pulls))
pulls_more t pull pulls =
    ap (λ s. ((((t ++ key_text Pulls) ++ codes "{") ++ (quoted pull.task ++ 58 ∷ compact_text (pulled_data pull.value))) ++ members_text true (pull_members pulls)) ++ s) line_ends
    ∙ ap (λ s. s ++ line_end no_members) (in_brackets (t ++ key_text Pulls) (quoted pull.task) (compact_text (pulled_data pull.value)) (members_text true (pull_members pulls)))
    ∙ member_more t Pulls (object (pull_members (pull ∷ pulls))) no_members
  where
    in_brackets : (t q v m : List ℕ) → ((t ++ 123 ∷ []) ++ (q ++ 58 ∷ v)) ++ m ≡ t ++ 123 ∷ (q ++ 58 ∷ (v ++ m))
    in_brackets t q v m = simp append_assoc

-- without pulls the line ends at once
pub no_pulls_end : (pulls : List Pull) → length pulls ≡ 0 → codes "}\n" ≡ line_end (pulls_members pulls)
no_pulls_end [] none = line_ends
no_pulls_end (pull ∷ pulls) none = absurd (omega arith)

pub minus_one : codes "-1" ≡ number_text (negative (negsuc 0))
minus_one = ap (λ s. 45 ∷ s) (sym (decimal_digit 1 (omega arith)))
