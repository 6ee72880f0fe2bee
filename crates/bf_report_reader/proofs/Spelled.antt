-- A line spells one thing.
use Rattle.std.proofs.Common.{◌≡◌, ℕ, List, [], ◌∷◌, ◌++◌, length, get_or, true, false, true≢false, Option, Some, None, codes, decimal, refl, sym, ap, ◌∙◌, subst, ℤ, arith, inl, inr}
use Rattle.std.proofs.lemmas.Fmt.{decimal_injective, decimal_digit}
use Rattle.bf_interval.specs.declared.interval.Interval.{Interval}
use Rattle.jiff.specs.declared.timestamp.Timestamp.{Timestamp}
use Rattle.bf_moment.specs.Moment.{moment_text, nearest, Spells as SpellsMoment}
use Rattle.std.proofs.lemmas.Int.{ints}
use Rattle.bf_moment.proofs.OneText.{one_text}
use Rattle.std.specs.Str.{bytes_eq}
use Rattle.bf_value.specs.Json.{json_of, value_of_line, value_of_text}
use Rattle.bf_value.specs.declared.xval.Xval.{Xval}
use Rattle.bf_xcom.specs.declared.values.Outcome.{Outcome}
use Rattle.bf_xcom.specs.declared.values.Outcome.TheVariants.{Success, Failed, Skipped}
use Rattle.bf_xcom.specs.declared.values.RunState.{RunState}
use Rattle.bf_xcom.specs.declared.values.TaskResult.{TaskResult}
use Rattle.bf_report.specs.declared.report.Pull.{Pull}
use Rattle.bf_report.specs.Report.{state_word, value_word, pulled_word, run_state_word_of}
use Rattle.bf_plan.proofs.ListLemmas.{some_same}
use Rattle.bf_report_reader.specs.declared.part.GivenPart.{GivenPart}
use Rattle.bf_report_reader.specs.Parts.{IsToldValue, IsToldPulled, IsToldPull}
use Rattle.bf_report_reader.specs.inner.Parts.{IsPart, pull_words, part_text}
use Rattle.bf_report_reader.specs.declared.entry.Untried.{Untried}
use Rattle.bf_report_reader.specs.declared.entry.Entry.{Entry}
use Rattle.bf_report_reader.specs.declared.entry.Entry.TheVariants.{Never, Tried}
use Rattle.bf_report_reader.specs.inner.Reads.{Spells, IsWord, AreFields}
use Rattle.bf_report_reader.specs.Entries.{IsShownValue, IsShownOutcome, IsShownResult, IsTries}
use Rattle.bf_report_reader.specs.inner.Entries.{SaysOutcome, SaysNever, SaysResult, index_text, IsIndex, never_word, entry_text, IsEntry}
use Rattle.bf_report_reader.specs.Runs.{IsReportMoment}
use Rattle.bf_report_reader.specs.inner.Runs.{spelled_moment, run_words}
use Rattle.bf_report_reader.proofs.Splits.{cut_once}
use Rattle.bf_report_reader.proofs.Words.{id_lacks, value_not_dash, decimal_plain, moment_plain, state_plain, never_plain, index_plain}
use Rattle.bf_value.proofs.LackLemmas.{Lacks, decimal_lacks, first_lacks}

-- ---- fields

pub same_fields : (text a b c d x y z w : List ℕ) → AreFields text a b c d → AreFields text x y z w → (a ≡ x) × (b ≡ y) × (c ≡ z) × (d ≡ w)
same_fields text a b c d x y z w one two =
    let (index, rest) = cut_once 32 a x (b ++ 32 ∷ (c ++ 32 ∷ d)) (y ++ 32 ∷ (z ++ 32 ∷ w)) one.0 two.0 (sym one.3 ∙ two.3) in
    let (state, more) = cut_once 32 b y (c ++ 32 ∷ d) (z ++ 32 ∷ w) one.1 two.1 rest in
    let (tries, value) = cut_once 32 c z d w one.2 two.2 more in
    (index, state, tries, value)

pub state_field : Entry → List ℕ
state_field (Never u) = never_word u
state_field (Tried index r) = state_word r.outcome

pub index_field : Entry → List ℕ
index_field (Never u) = codes "-1"
index_field (Tried index r) = index_text index

pub tries_field : Entry → List ℕ
tries_field (Never u) = codes "0"
tries_field (Tried index r) = decimal r.tries

pub value_field : Entry → List ℕ
value_field (Never u) = codes "-"
value_field (Tried index r) = value_word r.outcome

pub entry_fields : (e : Entry) → AreFields (entry_text e) (index_field e) (state_field e) (tries_field e) (value_field e)
unfolding index_field state_field tries_field value_field
entry_fields (Never u) = (refl, (never_plain u).0, refl, refl)
entry_fields (Tried index r) = ((index_plain index).0, (state_plain r.outcome).0, (decimal_plain r.tries).0, refl)

pub own_fields : (e : Entry) (text : List ℕ) → text ≡ entry_text e → AreFields text (index_field e) (state_field e) (tries_field e) (value_field e)
own_fields e text is = subst (λ t. AreFields t (index_field e) (state_field e) (tries_field e) (value_field e)) (sym is) (entry_fields e)

-- ---- what a field says

differ : (x y : List ℕ) (k : ℕ) → x ≡ y → (get_or x k 0 ≡ get_or y k 0 → ⊥) → ⊥
differ x y k e other = other (ap (λ l. get_or l k 0) e)

pub same_never : (u v : Untried) → never_word u ≡ never_word v → u ≡ v
same_never Untried.NoStatus Untried.NoStatus e = refl
same_never Untried.NoStatus Untried.Skipped e = absurd (differ _ _ 0 e (λ h. omega (arith, h)))
same_never Untried.NoStatus Untried.UpstreamFailed e = absurd (differ _ _ 0 e (λ h. omega (arith, h)))
same_never Untried.Skipped Untried.NoStatus e = absurd (differ _ _ 0 e (λ h. omega (arith, h)))
same_never Untried.Skipped Untried.Skipped e = refl
same_never Untried.Skipped Untried.UpstreamFailed e = absurd (differ _ _ 0 e (λ h. omega (arith, h)))
same_never Untried.UpstreamFailed Untried.NoStatus e = absurd (differ _ _ 0 e (λ h. omega (arith, h)))
same_never Untried.UpstreamFailed Untried.Skipped e = absurd (differ _ _ 0 e (λ h. omega (arith, h)))
same_never Untried.UpstreamFailed Untried.UpstreamFailed e = refl

pub same_run_state : (u v : RunState) → run_state_word_of u ≡ run_state_word_of v → u ≡ v
same_run_state RunState.Success RunState.Success e = refl
same_run_state RunState.Success RunState.Failed e = absurd (differ _ _ 0 e (λ h. omega (arith, h)))
same_run_state RunState.Failed RunState.Success e = absurd (differ _ _ 0 e (λ h. omega (arith, h)))
same_run_state RunState.Failed RunState.Failed e = refl

pub same_value : (v w : Xval) → IsShownValue v → IsShownValue w → json_of v ≡ json_of w → v ≡ w
same_value v w good other e = some_same (sym good.pushed ∙ ap value_of_line e ∙ other.pushed)

pub same_outcome : (o p : Outcome) → IsShownOutcome o → IsShownOutcome p → state_word o ≡ state_word p → value_word o ≡ value_word p → o ≡ p
same_outcome (Success (Some v)) (Success (Some w)) good other s e = ap (λ x. Success (Some x)) (same_value v w good other e)
same_outcome (Success (Some v)) (Success None) good other s e = absurd (value_not_dash v e)
same_outcome (Success None) (Success (Some w)) good other s e = absurd (value_not_dash w (sym e))
same_outcome (Success None) (Success None) good other s e = refl
same_outcome (Success v) Failed good other s e = absurd (differ _ _ 0 s (λ h. omega (arith, h)))
same_outcome (Success v) Skipped good other s e = absurd (differ _ _ 1 s (λ h. omega (arith, h)))
same_outcome Failed (Success w) good other s e = absurd (differ _ _ 0 s (λ h. omega (arith, h)))
same_outcome Failed Failed good other s e = refl
same_outcome Failed Skipped good other s e = absurd (differ _ _ 0 s (λ h. omega (arith, h)))
same_outcome Skipped (Success w) good other s e = absurd (differ _ _ 1 s (λ h. omega (arith, h)))
same_outcome Skipped Failed good other s e = absurd (differ _ _ 0 s (λ h. omega (arith, h)))
same_outcome Skipped Skipped good other s e = refl

pub same_index : (x y : Option ℕ) → IsIndex x → IsIndex y → index_text x ≡ index_text y → x ≡ y
same_index None None good other e = refl
same_index None (Some n) good other e = absurd ((first_lacks 45 45 (49 ∷ []) (subst (Lacks 45) (sym e) (decimal_lacks 45 n (omega arith)))).0 refl)
same_index (Some m) None good other e = absurd ((first_lacks 45 45 (49 ∷ []) (subst (Lacks 45) e (decimal_lacks 45 m (omega arith)))).0 refl)
same_index (Some m) (Some n) good other e = ap Some (decimal_injective m n (omega (arith, good)) (omega (arith, other)) e)

-- a task with a try doesn't say that it has none
pub some_tries : (n : ℕ) → IsTries n → codes "0" ≡ decimal n → ⊥
some_tries n tries e = omega (arith, tries, decimal_injective 0 n (omega arith) (omega (arith, tries)) (decimal_digit 0 (omega arith) ∙ e))

pub same_result : (r s : TaskResult) → IsShownResult r → IsShownResult s → state_word r.outcome ≡ state_word s.outcome → decimal r.tries ≡ decimal s.tries → value_word r.outcome ≡ value_word s.outcome → r ≡ s
same_result r s good other state tries value =
    let outcomes = same_outcome r.outcome s.outcome good.outcome other.outcome state value in
    let numbers = decimal_injective r.tries s.tries (omega (arith, good.tries)) (omega (arith, other.tries)) tries in
    λ k. record { outcome = outcomes k; tries = numbers k }

pub same_entry : (e f : Entry) → IsEntry e → IsEntry f → entry_text e ≡ entry_text f → e ≡ f
unfolding index_field state_field tries_field value_field
same_entry e f good other same =
    let theirs = own_fields f (entry_text e) same in
    let (index, state, tries, value) = same_fields (entry_text e) _ _ _ _ _ _ _ _ (entry_fields e) theirs in
    go e f good other index state tries value
  where
    go : (e f : Entry) → IsEntry e → IsEntry f → index_field e ≡ index_field f → state_field e ≡ state_field f → tries_field e ≡ tries_field f → value_field e ≡ value_field f → e ≡ f
    go (Never u) (Never v) good other index state tries value = ap Never (same_never u v state)
    go (Never u) (Tried y s) good other index state tries value = absurd (some_tries s.tries other.1.tries tries)
    go (Tried x r) (Never v) good other index state tries value = absurd (some_tries r.tries good.1.tries (sym tries))
    go (Tried x r) (Tried y s) good other index state tries value =
        ap (λ i. Tried i r) (same_index x y good.0 other.0 index) ∙ ap (λ t. Tried y t) (same_result r s good.1 other.1 state tries value)

pub one_outcome : (o p : Outcome) (state value : List ℕ) → SaysOutcome state value o → SaysOutcome state value p → o ≡ p
one_outcome o p state value one two = same_outcome o p one.0 two.0 (sym one.1 ∙ two.1) (sym one.2 ∙ two.2)

-- ---- what was given

pub same_told : (deepest longest : ℕ) (v w : Xval) → IsToldValue deepest longest v → IsToldValue deepest longest w → json_of v ≡ json_of w → v ≡ w
same_told deepest longest v w good other e = some_same (sym good.says ∙ ap (value_of_text deepest) e ∙ other.says)

pub same_pulled : (v w : Option Xval) → IsToldPulled v → IsToldPulled w → pulled_word v ≡ pulled_word w → v ≡ w
same_pulled None None good other e = refl
same_pulled None (Some w) good other e = absurd (value_not_dash w (sym e))
same_pulled (Some v) None good other e = absurd (value_not_dash v e)
same_pulled (Some v) (Some w) good other e = ap Some (same_told 65 67_109_889 v w good.0 other.0 e)

-- the id and the value of a pull
pub pull_fields : (p : Pull) (text id value : List ℕ) → IsWord id → text ≡ id ++ 32 ∷ value → Spells IsToldPull pull_words text p → (id ≡ p.task) × (value ≡ pulled_word p.value)
pull_fields p text id value word is says = cut_once 32 id p.task value (pulled_word p.value) word (id_lacks 32 p.task (omega arith) says.0.0) (sym is ∙ says.1)

pub same_pull : (p q : Pull) → IsToldPull p → IsToldPull q → pull_words p ≡ pull_words q → p ≡ q
same_pull p q good other e =
    let (task, value) = pull_fields q (pull_words p) p.task (pulled_word p.value) (id_lacks 32 p.task (omega arith) good.0) refl (other, e) in
    let values = same_pulled p.value q.value good.1 other.1 value in
    λ k. record { task = task k; value = values k }

-- no two words of the format are one
pub apart : (v w rest more : List ℕ) → IsWord v → IsWord w → bytes_eq v v ≡ true → bytes_eq w v ≡ false → v ++ 32 ∷ rest ≡ w ++ 32 ∷ more → ⊥
apart v w rest more plain other own other_not e = true≢false (sym own ∙ ap (λ l. bytes_eq l v) (cut_once 32 v w rest more plain other e).0 ∙ other_not)

pub same_part : (g h : GivenPart) → IsPart g → IsPart h → part_text g ≡ part_text h → g ≡ h
same_part (GivenPart.Item v) (GivenPart.Item w) good other e =
    ap GivenPart.Item (same_told 64 65_536 v w good other (cut_once 32 (codes "@item") (codes "@item") (json_of v) (json_of w) refl refl e).1)
same_part (GivenPart.Item v) (GivenPart.Pull q) good other e = absurd (apart (codes "@item") (codes "@pull") (json_of v) (pull_words q) refl refl refl refl e)
same_part (GivenPart.Pull p) (GivenPart.Item w) good other e = absurd (apart (codes "@pull") (codes "@item") (pull_words p) (json_of w) refl refl refl refl e)
same_part (GivenPart.Pull p) (GivenPart.Pull q) good other e =
    ap GivenPart.Pull (same_pull p q good other (cut_once 32 (codes "@pull") (codes "@pull") (pull_words p) (pull_words q) refl refl e).1)

-- ---- the words of a run

pub moment_found : (t : Timestamp) (text : List ℕ) (n : ℤ) → SpellsMoment text n → length text ≡ 20 → Spells IsReportMoment spelled_moment text t → nearest n ≡ t.nanosecond
moment_found t text n found long says = elim found.text [
  | inl whole ↦
      let same : n ≡ t.nanosecond = one_text n t.nanosecond found.shown says.0.shown found.whole says.0.whole (sym whole ∙ says.1) in
      grind (arith, ints, same, says.0.to_2208)
  | inr date ↦ absurd (omega (arith, ap length date.1, long))
]

-- start, end and state are those of the run
pub run_fields : (p : Interval × RunState) (text start end state rest : List ℕ) → IsWord start → text ≡ start ++ 32 ∷ rest → IsWord end → rest ≡ end ++ 32 ∷ state → text ≡ run_words p
    → (start ≡ moment_text p.0.start.nanosecond) × (end ≡ moment_text p.0.end.nanosecond) × (state ≡ run_state_word_of p.1)
run_fields p text start end state rest word is other then says =
    let (first, more) = cut_once 32 start (moment_text p.0.start.nanosecond) rest (moment_text p.0.end.nanosecond ++ 32 ∷ run_state_word_of p.1) word (moment_plain p.0.start.nanosecond).0 (sym is ∙ says) in
    let (second, last) = cut_once 32 end (moment_text p.0.end.nanosecond) state (run_state_word_of p.1) other (moment_plain p.0.end.nanosecond).0 (sym then ∙ more) in
    (first, second, last)

-- ---- a line of a task from its fields

SaysEntry : List ℕ → List ℕ → List ℕ → List ℕ → Entry → Type 0
SaysEntry index state tries value (Never u) = SaysNever index state tries value u
SaysEntry index state tries value (Tried x r) = Spells IsIndex index_text index x × SaysResult state tries value r

says_entry : (e : Entry) (text index state tries value : List ℕ) → AreFields text index state tries value → Spells IsEntry entry_text text e → SaysEntry index state tries value e
unfolding SaysEntry index_field state_field tries_field value_field
says_entry e text index state tries value fields says =
    let theirs = own_fields e text says.1 in
    let (i, s, t, v) = same_fields text _ _ _ _ _ _ _ _ fields theirs in
    go e says.0 i s t v
  where
    go : (e : Entry) → IsEntry e → index ≡ index_field e → state ≡ state_field e → tries ≡ tries_field e → value ≡ value_field e → SaysEntry index state tries value e
    go (Never u) good i s t v = (i, s, t, v)
    go (Tried x r) good i s t v = ((good.0, i), (good.1, s, t, v))

-- a task without a try
pub only_never : (e : Entry) (u : Untried) (text index state tries value : List ℕ) → AreFields text index state tries value → Spells IsEntry entry_text text e → SaysNever index state tries value u → Never u ≡ e
only_never e u text index state tries value fields says never =
    let is : text ≡ entry_text (Never u) = fields.3 ∙ rw (never.0, never.1, never.2, never.3) refl in
    same_entry (Never u) e tt says.0 (sym is ∙ says.1)

pub record IsTried (index state tries value : List ℕ) (e : Entry) : Type 0 where
  pub number : Option ℕ
  pub instance : TaskResult
  pub is : e ≡ Tried number instance
  pub at : Spells IsIndex index_text index number
  pub says : SaysResult state tries value instance

-- another
pub only_tried : (e : Entry) (text index state tries value : List ℕ) → AreFields text index state tries value → Spells IsEntry entry_text text e → ((u : Untried) → SaysNever index state tries value u → ⊥) → IsTried index state tries value e
unfolding SaysEntry
only_tried e text index state tries value fields says none = go e (says_entry e text index state tries value fields says)
  where
    go : (e : Entry) → SaysEntry index state tries value e → IsTried index state tries value e
    go (Never u) parts = absurd (none u parts)
    go (Tried x r) parts = record { number = x; instance = r; is = refl; at = parts.0; says = parts.1 }
