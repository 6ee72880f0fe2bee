-- The entry that answers a try is that of the try.
use Rattle.std.proofs.Common.{◌≡◌, ◌≢◌, ◌⊎◌, ℕ, zero, suc, ◌-◌, ◌&&◌, Bool, true, false, true≢false, List, [], ◌∷◌, Option, Some, None, ℤ, pos, negsuc, map, find, flat_map, zip, slice_get, refl, sym, ap, ap₂, ◌∙◌, inl, inr, arith}
use Rattle.std.specs.List.{enumerate_from, range_with_len}
use Rattle.std.specs.Option.{option_or}
use Rattle.std.specs.Ordering.{int_eq}
use Rattle.std.specs.Str.{bytes_eq}
use Rattle.std.specs.Cmp.{signed_Decides}
use Rattle.std.proofs.lemmas.Bool.{cases_Bool}
use Rattle.std.proofs.lemmas.List.Concat.{flat_map_single}
use Rattle.std.proofs.lemmas.List.Folds.{find-append}
use Rattle.std.proofs.lemmas.Slice.Eq.{bytes_eq-Decides}
use Rattle.bf_value.specs.declared.name.JobName.{JobName}
use Rattle.bf_value.specs.Json.{json_of}
use Rattle.bf_table.specs.declared.table.TableEntry.{TableEntry}
use Rattle.bf_table.specs.Tables.{answers_for_in}
use Rattle.bf_xcom.specs.declared.values.Outcome.{Outcome}
use Rattle.bf_xcom.specs.declared.values.Outcome.TheVariants.{Success, Failed, Skipped}
use Rattle.bf_xcom.specs.declared.values.TaskResult.{TaskResult}
use Rattle.bf_report.specs.declared.report.TaskReport.{TaskReport}
use Rattle.bf_answers.specs.Answers.{entries_for, entry_at, instance_entries, task_entries, tasks_entries}

-- ---- one list of many that has what is looked for

pub or_nothing : {X : Type 0} (o : Option X) → option_or o None ≡ o
or_nothing None = refl
or_nothing (Some x) = refl

module _ {X Y : Type 0} (p : Y → Bool) (f : X → List Y) where
  pub nowhere : (xs : List X) → ((i : ℕ) (x : X) → slice_get xs i ≡ Some x → find p (f x) ≡ None) → find p (flat_map f xs) ≡ None
  nowhere [] none = refl
  nowhere (x ∷ xs) none = find-append p (f x) (flat_map f xs) ∙ ap₂ option_or (none 0 x refl) (nowhere xs (λ i y e. none (suc i) y e))

  pub somewhere : (xs : List X) (k : ℕ) (x : X) → slice_get xs k ≡ Some x → ((i : ℕ) (y : X) → slice_get xs i ≡ Some y → i ≢ k → find p (f y) ≡ None) → find p (flat_map f xs) ≡ find p (f x)
  somewhere [] k x e none = cc
  somewhere (y ∷ ys) zero x e none =
      let same : y ≡ x = cc in
      find-append p (f y) (flat_map f ys) ∙ ap (option_or (find p (f y))) (nowhere ys (λ i z h. none (suc i) z h (λ same. omega (arith, same)))) ∙ or_nothing (find p (f y)) ∙ ap (λ z. find p (f z)) same
  somewhere (y ∷ ys) (suc k) x e none =
      find-append p (f y) (flat_map f ys) ∙ ap (λ o. option_or o (find p (flat_map f ys))) (none 0 y refl (λ same. omega (arith, same)))
      ∙ somewhere ys k x e (λ i z h other. none (suc i) z h (λ same. other (omega (arith, same))))

abbrev pub first_of : List TableEntry → Option TableEntry
first_of [] = None
first_of (e ∷ es) = Some e

-- ---- entries that don't answer

text_other : (text other : List ℕ) → text ≢ other → bytes_eq text other ≡ false
text_other text other unlike = elim (cases_Bool (bytes_eq text other)) [ inl is ↦ absurd (unlike ((bytes_eq-Decides text other).0 is)) | inr not_is ↦ not_is ]

text_same : (text : List ℕ) → bytes_eq text text ≡ true
text_same text = (bytes_eq-Decides text text).1 refl

int_other : (m n : ℤ) → m ≢ n → int_eq m n ≡ false
int_other m n unlike = elim (cases_Bool (int_eq m n)) [ inl is ↦ absurd (unlike ((signed_Decides m n).0 is)) | inr not_is ↦ not_is ]

int_same : (n : ℤ) → int_eq n n ≡ true
int_same n = (signed_Decides n n).1 refl

four : (a b c d : Bool) → (a ≡ false) ⊎ ((b ≡ false) ⊎ ((c ≡ false) ⊎ (d ≡ false))) → (((a && b) && c) && d) ≡ false
four true b c d (inl e) = absurd (true≢false e)
four false b c d (inl e) = refl
four true true c d (inr (inl e)) = absurd (true≢false e)
four true false c d (inr (inl e)) = refl
four false b c d (inr (inl e)) = refl
four true true true d (inr (inr (inl e))) = absurd (true≢false e)
four true true false d (inr (inr (inl e))) = refl
four true false c d (inr (inr (inl e))) = refl
four false b c d (inr (inr (inl e))) = refl
four a b c true (inr (inr (inr e))) = absurd (true≢false e)
four true true true false (inr (inr (inr e))) = refl
four true true false false (inr (inr (inr e))) = refl
four true false c false (inr (inr (inr e))) = refl
four false b c false (inr (inr (inr e))) = refl

-- an entry of another task, run, index or try
abbrev pub Differs : List ℕ → List ℕ → JobName → List ℕ → List ℕ → ℤ → ℕ → Type 0
Differs id date name run task index attempt = (task ≢ id) ⊎ ((run ≢ date) ⊎ ((index ≢ name.index) ⊎ (attempt ≢ name.attempt)))

module _ (id date : List ℕ) (name : JobName) where
  abbrev pub asks : TableEntry → Bool
  asks = answers_for_in id date name

  other : (run task : List ℕ) (index : ℤ) (attempt status : ℕ) (line : List ℕ) → Differs id date name run task index attempt → asks (entry_at run task index attempt status line) ≡ false
  other run task index attempt status line (inl unlike) = four _ _ _ _ (inl (text_other task id unlike))
  other run task index attempt status line (inr (inl unlike)) = four (bytes_eq task id) _ _ _ (inr (inl (text_other run date unlike)))
  other run task index attempt status line (inr (inr (inl unlike))) = four (bytes_eq task id) (bytes_eq run date) _ _ (inr (inr (inl (int_other index name.index unlike))))
  other run task index attempt status line (inr (inr (inr unlike))) =
      four (bytes_eq task id) (bytes_eq run date) (int_eq index name.index) _ (inr (inr (inr (int_other (pos attempt) (pos name.attempt) (λ e. unlike (same_number e))))))
    where
      same_number : {m n : ℕ} → pos m ≡ pos n → m ≡ n
      same_number e = cc

  pub own : (status : ℕ) (line : List ℕ) → asks (entry_at date id name.index name.attempt status line) ≡ true
  own status line = rw (text_same id, text_same date, int_same name.index, int_same (pos name.attempt)) refl

  module _ (run task : List ℕ) (index : ℤ) where
    abbrev None_of : ℕ → Type 0
    None_of attempt = Differs id date name run task index attempt

    failed_missed : (attempt : ℕ) → None_of attempt → find asks (entry_at run task index attempt 1 [] ∷ []) ≡ None
    failed_missed attempt unlike = rw (other run task index attempt 1 [] unlike) refl

    pub ended_missed : (attempt : ℕ) (outcome : Outcome) → None_of attempt → find asks (entries_for run task index attempt outcome) ≡ None
    ended_missed attempt (Success None) unlike = refl
    ended_missed attempt (Success (Some value)) unlike = rw (other run task index attempt 0 (json_of value) unlike) refl
    ended_missed attempt Failed unlike = failed_missed attempt unlike
    ended_missed attempt Skipped unlike = rw (other run task index attempt 99 [] unlike) refl

  -- ---- one of a task, a run or an index that isn't asked for

  pub retried_missed : (run task : List ℕ) (index : ℤ) (attempts : List ℕ) → ((i attempt : ℕ) → slice_get attempts i ≡ Some attempt → Differs id date name run task index attempt)
      → find asks (map (λ attempt. entry_at run task index attempt 1 []) attempts) ≡ None
  retried_missed run task index attempts unlike =
      ap (find asks) (sym (flat_map_single (λ attempt. entry_at run task index attempt 1 []) attempts))
      ∙ nowhere asks (λ attempt. entry_at run task index attempt 1 [] ∷ []) attempts (λ i attempt e. failed_missed run task index attempt (unlike i attempt e))

  pub instance_missed : (run task : List ℕ) (index : ℤ) (result : TaskResult) → ((attempt : ℕ) → Differs id date name run task index attempt) → find asks (instance_entries run task index result) ≡ None
  instance_missed run task index result unlike =
      find-append asks (map (λ attempt. entry_at run task index attempt 1 []) (range_with_len 1 (result.tries - 1))) (entries_for run task index result.tries result.outcome)
      ∙ ap₂ option_or (retried_missed run task index (range_with_len 1 (result.tries - 1)) (λ i attempt e. unlike attempt)) (ended_missed run task index result.tries result.outcome (unlike result.tries))

  pub task_missed : (run task : List ℕ) (told : TaskReport) → ((index : ℤ) (attempt : ℕ) → Differs id date name run task index attempt) → find asks (task_entries run task told) ≡ None
  task_missed run task TaskReport.NoStatus unlike = refl
  task_missed run task TaskReport.Skipped unlike = refl
  task_missed run task TaskReport.UpstreamFailed unlike = refl
  task_missed run task (TaskReport.Ran x) unlike = instance_missed run task (negsuc 0) x.result (unlike (negsuc 0))
  task_missed run task (TaskReport.Mapped xs) unlike =
      nowhere asks (λ pair. instance_entries run task (pos pair.0) pair.1.result) (enumerate_from 0 xs) (λ i pair e. instance_missed run task (pos pair.0) pair.1.result (unlike (pos pair.0)))

  pub tasks_missed : (run : List ℕ) (ids : List (List ℕ)) (told : List TaskReport) → run ≢ date → find asks (tasks_entries run ids told) ≡ None
  tasks_missed run ids told unlike =
      nowhere asks (λ pair. task_entries run pair.0 pair.1) (zip ids told) (λ i pair e. task_missed run pair.0 pair.1 (λ index attempt. inr (inl unlike)))

  -- ---- the one that is asked for

  pub ended_found : (outcome : Outcome) → find asks (entries_for date id name.index name.attempt outcome) ≡ first_of (entries_for date id name.index name.attempt outcome)
  ended_found (Success None) = refl
  ended_found (Success (Some value)) = rw (own 0 (json_of value)) refl
  ended_found Failed = rw (own 1 []) refl
  ended_found Skipped = rw (own 99 []) refl
