-- Which lines follow: each line is short, lies within its line and spells one thing.
use Rattle.std.proofs.Common.{◌≡◌, ◌≤◌, ℕ, zero, suc, List, [], ◌∷◌, ◌++◌, length, slice_get, Bool, true, false, cond, true≢false, Option, Some, None, codes, decimal, refl, sym, ap, ◌∙◌, subst, arith, length-append, inl, inr}
use Rattle.std.specs.List.{AllByRecursion}
use Rattle.std.proofs.lemmas.Bool.{and_parts}
use Rattle.bf_plan.specs.Ids.{is_id_in}
use Rattle.bf_value.specs.Json.{json_of}
use Rattle.bf_value.specs.declared.xval.Xval.{Xval}
use Rattle.bf_value.proofs.LackLemmas.{Lacks, lacks_append, text_lacks}
use Rattle.bf_interval.specs.declared.interval.Interval.{Interval}
use Rattle.bf_interval.proofs.OneListing.{same_moment}
use Rattle.bf_moment.specs.Moment.{moment_text}
use Rattle.bf_moment.proofs.OneText.{one_text}
use Rattle.bf_xcom.specs.declared.values.RunState.{RunState}
use Rattle.bf_report.specs.declared.report.Pull.{Pull}
use Rattle.bf_report.specs.declared.report.RunReport.{RunReport}
use Rattle.bf_report.specs.Report.{run_state_word_of, state_word, value_word, pulled_word}
use Rattle.bf_report.proofs.DatedFacts.{same_run}
use Rattle.bf_plan.proofs.ListLemmas.{some_same}
use Rattle.bf_report_reader.specs.declared.entry.Untried.{Untried}
use Rattle.bf_report_reader.specs.declared.entry.Entry.{Entry}
use Rattle.bf_report_reader.specs.declared.part.GivenPart.{GivenPart}
use Rattle.bf_report_reader.specs.declared.open.OpenRun.{OpenRun}
use Rattle.bf_report_reader.specs.declared.beginning.ReportSoFar.{ReportSoFar}
use Rattle.bf_report_reader.specs.inner.Entries.{IsEntry, entry_text, index_text, never_word}
use Rattle.bf_report_reader.specs.Parts.{IsToldItem, IsToldPull}
use Rattle.bf_report_reader.specs.inner.Parts.{IsPart, pull_words, part_text}
use Rattle.bf_report_reader.specs.Runs.{IsRunInterval}
use Rattle.bf_report_reader.specs.inner.Runs.{run_words}
use Rattle.bf_report_reader.specs.inner.Rules.{IsRuled, KeepsRules}
use Rattle.bf_report_reader.specs.Faults.{IsInLine, longest_line}
use Rattle.bf_report_reader.specs.Beginning.{task_count_of, is_text, is_next_in, is_next_id_at, is_further_task, goes_on_in, is_next_instance_at, with_entry}
use Rattle.bf_report_reader.specs.inner.Beginning.{runs_of, with_run, with_part}
use Rattle.bf_report_reader.specs.declared.reading.Step.{Step}
use Rattle.bf_report_reader.specs.inner.Reads.{IsWord}
use Rattle.bf_report_reader.specs.inner.Steps.{Follows, MayEnd, MayStand, Steps, EntrySteps, EndsBy}
use Rattle.bf_report_reader.proofs.Splits.{cut_once}
use Rattle.bf_report_reader.proofs.Words.{id_lacks, id_short, decimal_plain, moment_plain, moment_length, state_plain, never_plain, index_plain, run_state_plain, value_lacks, pulled_lacks, decimal_short, state_short, never_short, run_state_short, index_short, value_short, pulled_short, at_least}
use Rattle.bf_report_reader.proofs.Spelled.{same_entry, same_run_state, run_fields, apart, same_told, same_pull, same_part}
use Rattle.bf_report_reader.proofs.Growth.{if_some, is_text_of, next_parts, further_parts, new_parts}
use Rattle.bf_report_reader.proofs.StepFacts.{counted_runs, entry_next, run_next, part_next}

-- ---- the ids of lines

pub each_at : {X : Type 0} (P : X → Type 0) (xs : List X) (n : ℕ) (x : X) → AllByRecursion P xs → slice_get xs n ≡ Some x → P x
each_at P [] n x each at = absurd (cc at)
each_at P (y ∷ ys) zero x each at = subst P (some_same at) each.0
each_at P (y ∷ ys) (suc n) x each at = each_at P ys n x each.1 at

next_id : (runs : List RunReport) (ids : List (List ℕ)) (run : Option OpenRun) (id : List ℕ) → AllByRecursion (λ id. is_id_in id ≡ true) ids → is_next_in runs ids run id ≡ true → is_id_in id ≡ true
next_id runs ids None id named next = absurd (true≢false (sym next))
next_id [] ids (Some o) id named next = (new_parts ids id next).0
next_id (r ∷ rs) ids (Some o) id named next = each_at (λ i. is_id_in i ≡ true) ids (task_count_of o) id named (is_text_of (slice_get ids (task_count_of o)) id next)

further_id : (ids : List (List ℕ)) (run : Option OpenRun) (id : List ℕ) (index : ℕ) → AllByRecursion (λ id. is_id_in id ≡ true) ids → goes_on_in ids run id index ≡ true → is_id_in id ≡ true
further_id ids None id index named next = absurd (true≢false (sym next))
further_id ids (Some o) id index named next =
    let (number, last) = and_parts (is_further_task o.task index) (is_text (slice_get ids (length o.run.tasks)) id) next in
    each_at (λ i. is_id_in i ≡ true) ids (length o.run.tasks) id named (is_text_of _ id last)

pub entry_id : (b c : ReportSoFar) (id : List ℕ) (e : Entry) → IsRuled b → with_entry b id e ≡ Some c → is_id_in id ≡ true
unfolding with_entry
entry_id b c id (Entry.Never Untried.NoStatus) ruled added = next_id b.runs b.tasks b.run id ruled.ids (next_parts b id (if_some (is_next_id_at b id) _ c added).0).1
entry_id b c id (Entry.Never Untried.Skipped) ruled added = next_id b.runs b.tasks b.run id ruled.ids (next_parts b id (if_some (is_next_id_at b id) _ c added).0).1
entry_id b c id (Entry.Never Untried.UpstreamFailed) ruled added = next_id b.runs b.tasks b.run id ruled.ids (next_parts b id (if_some (is_next_id_at b id) _ c added).0).1
entry_id b c id (Entry.Tried None r) ruled added = next_id b.runs b.tasks b.run id ruled.ids (next_parts b id (if_some (is_next_id_at b id) _ c added).0).1
entry_id b c id (Entry.Tried (Some zero) r) ruled added = next_id b.runs b.tasks b.run id ruled.ids (next_parts b id (if_some (is_next_id_at b id) _ c added).0).1
entry_id b c id (Entry.Tried (Some (suc n)) r) ruled added = further_id b.tasks b.run id (suc n) ruled.ids (further_parts b id (suc n) (if_some (is_next_instance_at b id (suc n)) _ c added).0).1

-- ---- one thing each

-- no id is a word of the format
not_word : (word id rest more : List ℕ) → IsWord word → is_id_in word ≡ false → is_id_in id ≡ true → id ++ 32 ∷ rest ≡ word ++ 32 ∷ more → ⊥
not_word word id rest more plain none good e = true≢false (sym good ∙ ap is_id_in (cut_once 32 id word rest more (id_lacks 32 id (omega arith) good) plain e).0 ∙ none)

pub not_run : (id rest more : List ℕ) → is_id_in id ≡ true → id ++ 32 ∷ rest ≡ codes "@run" ++ 32 ∷ more → ⊥
not_run id rest more good e = not_word (codes "@run") id rest more refl refl good e

pub not_end : (id rest more : List ℕ) → is_id_in id ≡ true → id ++ 32 ∷ rest ≡ codes "@end" ++ 32 ∷ more → ⊥
not_end id rest more good e = not_word (codes "@end") id rest more refl refl good e

run_not_end : (rest more : List ℕ) → codes "@run" ++ 32 ∷ rest ≡ codes "@end" ++ 32 ∷ more → ⊥
run_not_end rest more e = apart (codes "@run") (codes "@end") rest more refl refl refl refl e

-- nor is a part such a line
id_not_part : (part : GivenPart) (id rest : List ℕ) → is_id_in id ≡ true → id ++ 32 ∷ rest ≡ part_text part → ⊥
id_not_part (GivenPart.Item v) id rest good e = not_word (codes "@item") id rest (json_of v) refl refl good e
id_not_part (GivenPart.Pull p) id rest good e = not_word (codes "@pull") id rest (pull_words p) refl refl good e

run_not_part : (part : GivenPart) (rest : List ℕ) → codes "@run" ++ 32 ∷ rest ≡ part_text part → ⊥
run_not_part (GivenPart.Item v) rest e = apart (codes "@run") (codes "@item") rest (json_of v) refl refl refl refl e
run_not_part (GivenPart.Pull p) rest e = apart (codes "@run") (codes "@pull") rest (pull_words p) refl refl refl refl e

end_not_part : (part : GivenPart) (rest : List ℕ) → codes "@end" ++ 32 ∷ rest ≡ part_text part → ⊥
end_not_part (GivenPart.Item v) rest e = apart (codes "@end") (codes "@item") rest (json_of v) refl refl refl refl e
end_not_part (GivenPart.Pull p) rest e = apart (codes "@end") (codes "@pull") rest (pull_words p) refl refl refl refl e

same_words : (i j : Interval) (u v : RunState) → IsRunInterval i → IsRunInterval j → run_words (i, u) ≡ run_words (j, v) → (i ≡ j) × (u ≡ v)
same_words i j u v good other e =
    let (start, end, state) = run_fields (j, v) (run_words (i, u)) (moment_text i.start.nanosecond) (moment_text i.end.nanosecond) (run_state_word_of u) _
    (moment_plain i.start.nanosecond).0 refl (moment_plain i.end.nanosecond).0 refl e in
    let starts = same_moment i.start j.start (one_text i.start.nanosecond j.start.nanosecond good.start.shown other.start.shown good.start.whole other.start.whole start) in
    let ends = same_moment i.end j.end (one_text i.end.nanosecond j.end.nanosecond good.end.shown other.end.shown good.end.whole other.end.whole end) in
    (λ k. record { start = starts k; end = ends k }, same_run_state u v state)

same_bare : (r s : RunReport) → r.tasks ≡ [] → s.tasks ≡ [] → IsRunInterval r.interval → IsRunInterval s.interval → run_words (r.interval, r.state) ≡ run_words (s.interval, s.state) → r ≡ s
same_bare r s bare other good too e =
    let (interval, state) = same_words r.interval s.interval r.state s.state good too e in
    same_run r s interval state (bare ∙ sym other)

-- a line leads to one report
pub follows_once : (b c d : ReportSoFar) (text : List ℕ) → IsRuled b → Follows b text c → Follows b text d → c ≡ d
follows_once b c d text ruled (inl one) (inl two) =
    let named = entry_id b c one.id one.entry ruled one.added in
    let other = entry_id b d two.id two.entry ruled two.added in
    let (ids, entries) = cut_once 32 one.id two.id (entry_text one.entry) (entry_text two.entry) (id_lacks 32 one.id (omega arith) named) (id_lacks 32 two.id (omega arith) other) (sym one.spelled ∙ two.spelled) in
    some_same (sym one.added ∙ ap (λ i. with_entry b i one.entry) ids ∙ ap (with_entry b two.id) (same_entry one.entry two.entry one.good two.good entries) ∙ two.added)
follows_once b c d text ruled (inl one) (inr (inl two)) = absurd (not_run one.id _ _ (entry_id b c one.id one.entry ruled one.added) (sym one.spelled ∙ two.spelled))
follows_once b c d text ruled (inl one) (inr (inr two)) = absurd (id_not_part two.part one.id _ (entry_id b c one.id one.entry ruled one.added) (sym one.spelled ∙ two.spelled))
follows_once b c d text ruled (inr (inl one)) (inl two) = absurd (not_run two.id _ _ (entry_id b d two.id two.entry ruled two.added) (sym two.spelled ∙ one.spelled))
follows_once b c d text ruled (inr (inr one)) (inl two) = absurd (id_not_part one.part two.id _ (entry_id b d two.id two.entry ruled two.added) (sym two.spelled ∙ one.spelled))
follows_once b c d text ruled (inr (inl one)) (inr (inr two)) = absurd (run_not_part two.part _ (sym one.spelled ∙ two.spelled))
follows_once b c d text ruled (inr (inr one)) (inr (inl two)) = absurd (run_not_part one.part _ (sym two.spelled ∙ one.spelled))
follows_once b c d text ruled (inr (inr one)) (inr (inr two)) =
    some_same (sym one.added ∙ ap (with_part b) (same_part one.part two.part one.good two.good (sym one.spelled ∙ two.spelled)) ∙ two.added)
follows_once b c d text ruled (inr (inl one)) (inr (inl two)) =
    let words = (cut_once 32 (codes "@run") (codes "@run") (run_words (one.run.interval, one.run.state)) (run_words (two.run.interval, two.run.state)) refl refl (sym one.spelled ∙ two.spelled)).1 in
    some_same (sym one.added ∙ ap (with_run b) (same_bare one.run two.run one.bare two.bare one.good two.good words) ∙ two.added)

-- the end line is none that a report goes on by
pub end_once : (b c : ReportSoFar) (text : List ℕ) → IsRuled b → Follows b text c → MayEnd b text → ⊥
end_once b c text ruled (inl one) ends = not_end one.id _ _ (entry_id b c one.id one.entry ruled one.added) (sym one.spelled ∙ ends.0)
end_once b c text ruled (inr (inl one)) ends = run_not_end _ _ (sym one.spelled ∙ ends.0)
end_once b c text ruled (inr (inr one)) ends = end_not_part one.part _ (sym ends.0 ∙ one.spelled)

-- ---- within a line

entry_in_line : (e : Entry) → Lacks 10 (entry_text e)
entry_in_line (Entry.Never u) = lacks_append 10 (never_word u) (codes " 0 -") (never_plain u).1 refl
entry_in_line (Entry.Tried x r) =
    lacks_append 10 (index_text x) (32 ∷ (state_word r.outcome ++ 32 ∷ (decimal r.tries ++ 32 ∷ value_word r.outcome))) (index_plain x).1
    (lacks_append 10 (state_word r.outcome) (32 ∷ (decimal r.tries ++ 32 ∷ value_word r.outcome)) (state_plain r.outcome).1
    (lacks_append 10 (decimal r.tries) (32 ∷ value_word r.outcome) (decimal_plain r.tries).1 (value_lacks r.outcome)))

words_in_line : (p : Interval × RunState) → Lacks 10 (run_words p)
words_in_line p =
    lacks_append 10 (moment_text p.0.start.nanosecond) (32 ∷ (moment_text p.0.end.nanosecond ++ 32 ∷ run_state_word_of p.1)) (moment_plain p.0.start.nanosecond).1
    (lacks_append 10 (moment_text p.0.end.nanosecond) (32 ∷ run_state_word_of p.1) (moment_plain p.0.end.nanosecond).1 (run_state_plain p.1).1)

part_in_line : (part : GivenPart) → IsPart part → Lacks 10 (part_text part)
part_in_line (GivenPart.Item v) good = text_lacks v
part_in_line (GivenPart.Pull p) good = lacks_append 10 p.task (32 ∷ pulled_word p.value) (id_lacks 10 p.task (omega arith) good.0) (pulled_lacks p.value)

pub stands_in_line : (b : ReportSoFar) (text : List ℕ) → IsRuled b → MayStand b text → IsInLine text
stands_in_line b text ruled (inl (c, inl one)) =
    subst IsInLine (sym one.spelled) (lacks_append 10 one.id (32 ∷ entry_text one.entry) (id_lacks 10 one.id (omega arith) (entry_id b c one.id one.entry ruled one.added)) (entry_in_line one.entry))
stands_in_line b text ruled (inl (c, inr (inr one))) = subst IsInLine (sym one.spelled) (part_in_line one.part one.good)
stands_in_line b text ruled (inl (c, inr (inl one))) = subst IsInLine (sym one.spelled) (words_in_line (one.run.interval, one.run.state))
stands_in_line b text ruled (inr ends) = subst IsInLine (sym ends.0) (decimal_plain (length (runs_of b))).1

-- ---- lengths

entry_short : (e : Entry) → IsEntry e → length (entry_text e) ≤ 65_600
entry_short (Entry.Never u) good = omega (arith, never_short u, length-append (never_word u) (codes " 0 -"))
entry_short (Entry.Tried x r) good =
    omega (
      arith,
      index_short x good.0,
      state_short r.outcome,
      decimal_short r.tries (omega (arith, good.1.tries)),
      value_short r.outcome good.1.outcome,
      length-append (index_text x) (32 ∷ (state_word r.outcome ++ 32 ∷ (decimal r.tries ++ 32 ∷ value_word r.outcome))),
      length-append (state_word r.outcome) (32 ∷ (decimal r.tries ++ 32 ∷ value_word r.outcome)),
      length-append (decimal r.tries) (32 ∷ value_word r.outcome),
    )

part_short : (part : GivenPart) → IsPart part → length (part_text part) ≤ longest_line (part_text part)
part_short (GivenPart.Item v) good = omega (arith, good.short, at_least (part_text (GivenPart.Item v)))
part_short (GivenPart.Pull p) good =
    let most : longest_line (part_text (GivenPart.Pull p)) ≡ 68_000_000 = refl in
    omega (arith, most, id_short p.task good.0, pulled_short p.value good.1, length-append p.task (32 ∷ pulled_word p.value))

-- any line may have that many bytes
short_enough : (text : List ℕ) → length text ≤ 66_000 → length text ≤ longest_line text
short_enough text short = omega (arith, short, at_least text)

pub stands_short : (b : ReportSoFar) (text : List ℕ) → IsRuled b → MayStand b text → length text ≤ longest_line text
stands_short b text ruled (inl (c, inl one)) = short_enough text
    (omega (arith, ap length one.spelled, length-append one.id (32 ∷ entry_text one.entry), id_short one.id (entry_id b c one.id one.entry ruled one.added), entry_short one.entry one.good))
stands_short b text ruled (inl (c, inr (inl one))) =
    let p : Interval × RunState = (one.run.interval, one.run.state) in
    short_enough text
    (omega (
      arith,
      ap length one.spelled,
      run_state_short p.1,
      moment_length p.0.start.nanosecond,
      moment_length p.0.end.nanosecond,
      length-append (moment_text p.0.start.nanosecond) (32 ∷ (moment_text p.0.end.nanosecond ++ 32 ∷ run_state_word_of p.1)),
      length-append (moment_text p.0.end.nanosecond) (32 ∷ run_state_word_of p.1),
    ))
stands_short b text ruled (inl (c, inr (inr one))) = subst (λ t. length t ≤ longest_line t) (sym one.spelled) (part_short one.part one.good)
stands_short b text ruled (inr ends) = short_enough text (omega (arith, ap length ends.0, decimal_short (length (runs_of b)) (omega (arith, ruled.few_runs, counted_runs b))))

-- ---- what comes of a line

none_added : {X : Type 0} (o p : Option X) (x : X) → o ≡ None → o ≡ p → p ≡ Some x → ⊥
none_added o p x none same some = absurd (cc (none, same, some))

pub entry_step : (b c : ReportSoFar) (id text : List ℕ) (e : Entry) (taken : Bool) → KeepsRules b → IsEntry e → text ≡ entry_text e → with_entry b id e ≡ cond taken (Some c) None
    → EntrySteps (cond taken Step.Taken Step.Refused) b id text c
entry_step b c id text e true keeps good spelled added = entry_next b c id (id ++ 32 ∷ text) e keeps good (ap (λ t. id ++ 32 ∷ t) spelled) added
entry_step b c id text e false keeps good spelled none = λ f other too spelled' added. none_added _ _ other none (ap (with_entry b id) (same_entry e f good too (sym spelled ∙ spelled'))) added

-- no run is spelled
pub no_run : (b : ReportSoFar) (text : List ℕ) → IsRuled b → ((run : RunReport) (c : ReportSoFar) → run.tasks ≡ [] → IsRunInterval run.interval → text ≡ run_words (run.interval, run.state) → with_run b run ≡ Some c → ⊥)
    → MayStand b (codes "@run" ++ 32 ∷ text) → ⊥
no_run b text ruled none (inl (c, inl one)) = not_run one.id _ _ (entry_id b c one.id one.entry ruled one.added) (sym one.spelled)
no_run b text ruled none (inl (c, inr (inr one))) = run_not_part one.part _ one.spelled
no_run b text ruled none (inl (c, inr (inl one))) = none one.run c one.bare one.good (cut_once 32 (codes "@run") (codes "@run") text _ refl refl one.spelled).1 one.added
no_run b text ruled none (inr ends) = run_not_end _ _ ends.0

pub run_step : (b c : ReportSoFar) (text : List ℕ) (run : RunReport) (taken : Bool) → run.tasks ≡ [] → IsRunInterval run.interval → KeepsRules b → text ≡ run_words (run.interval, run.state)
    → with_run b run ≡ cond taken (Some c) None → Steps (cond taken Step.Taken Step.Refused) b (codes "@run" ++ 32 ∷ text) c
run_step b c text run true bare good keeps spelled added = run_next b c (codes "@run" ++ 32 ∷ text) run bare good keeps (ap (λ t. codes "@run" ++ 32 ∷ t) spelled) added
run_step b c text run false bare good keeps spelled none =
    no_run b text keeps.ruled (λ s other too fine spelled' added. none_added _ _ other none (ap (with_run b) (same_bare run s bare too good fine (sym spelled ∙ spelled'))) added)

-- no item and no pull is spelled
pub no_item_line : (b : ReportSoFar) (text : List ℕ) → IsRuled b → ((v : Xval) (c : ReportSoFar) → IsToldItem v → text ≡ json_of v → with_part b (GivenPart.Item v) ≡ Some c → ⊥) → MayStand b (codes "@item" ++ 32 ∷ text) → ⊥
no_item_line b text ruled none (inl (c, inl one)) = not_word (codes "@item") one.id _ text refl refl (entry_id b c one.id one.entry ruled one.added) (sym one.spelled)
no_item_line b text ruled none (inl (c, inr (inl one))) = apart (codes "@item") (codes "@run") text _ refl refl refl refl one.spelled
no_item_line b text ruled none (inl (c, inr (inr one))) = go one.part one.good one.spelled one.added
  where
    go : (part : GivenPart) → IsPart part → codes "@item" ++ 32 ∷ text ≡ part_text part → with_part b part ≡ Some c → ⊥
    go (GivenPart.Item v) good spelled added = none v c good (cut_once 32 (codes "@item") (codes "@item") text (json_of v) refl refl spelled).1 added
    go (GivenPart.Pull p) good spelled added = apart (codes "@item") (codes "@pull") text (pull_words p) refl refl refl refl spelled
no_item_line b text ruled none (inr ends) = apart (codes "@item") (codes "@end") text _ refl refl refl refl ends.0

pub no_pull_line : (b : ReportSoFar) (text : List ℕ) → IsRuled b → ((p : Pull) (c : ReportSoFar) → IsToldPull p → text ≡ pull_words p → with_part b (GivenPart.Pull p) ≡ Some c → ⊥) → MayStand b (codes "@pull" ++ 32 ∷ text) → ⊥
no_pull_line b text ruled none (inl (c, inl one)) = not_word (codes "@pull") one.id _ text refl refl (entry_id b c one.id one.entry ruled one.added) (sym one.spelled)
no_pull_line b text ruled none (inl (c, inr (inl one))) = apart (codes "@pull") (codes "@run") text _ refl refl refl refl one.spelled
no_pull_line b text ruled none (inl (c, inr (inr one))) = go one.part one.good one.spelled one.added
  where
    go : (part : GivenPart) → IsPart part → codes "@pull" ++ 32 ∷ text ≡ part_text part → with_part b part ≡ Some c → ⊥
    go (GivenPart.Pull p) good spelled added = none p c good (cut_once 32 (codes "@pull") (codes "@pull") text (pull_words p) refl refl spelled).1 added
    go (GivenPart.Item v) good spelled added = apart (codes "@pull") (codes "@item") text (json_of v) refl refl refl refl spelled
no_pull_line b text ruled none (inr ends) = apart (codes "@pull") (codes "@end") text _ refl refl refl refl ends.0

pub part_step : (b c : ReportSoFar) (line : List ℕ) (part : GivenPart) (taken : Bool) → KeepsRules b → IsPart part → line ≡ part_text part → with_part b part ≡ cond taken (Some c) None
    → Steps (cond taken Step.Taken Step.Refused) b line c
part_step b c line part true keeps good spelled added = part_next b c line part keeps good spelled added
part_step b c line part false keeps good spelled none =
    let P : List ℕ → Type 0 = λ l. MayStand b l → ⊥ in
    subst P (sym spelled) (go part good none)
  where
    go : (part : GivenPart) → IsPart part → with_part b part ≡ None → MayStand b (part_text part) → ⊥
    go (GivenPart.Item v) good none = no_item_line b (json_of v) keeps.ruled (λ w other too spelled' added. none_added _ _ other none (ap (λ x. with_part b (GivenPart.Item x)) (same_told 64 65_536 v w good too spelled')) added)
    go (GivenPart.Pull p) good none = no_pull_line b (pull_words p) keeps.ruled (λ q other too spelled' added. none_added _ _ other none (ap (λ x. with_part b (GivenPart.Pull x)) (same_pull p q good too spelled')) added)

pub no_end : (b : ReportSoFar) (text : List ℕ) → IsRuled b → (MayEnd b (codes "@end" ++ 32 ∷ text) → ⊥) → MayStand b (codes "@end" ++ 32 ∷ text) → ⊥
no_end b text ruled none (inl (c, inl one)) = not_end one.id _ _ (entry_id b c one.id one.entry ruled one.added) (sym one.spelled)
no_end b text ruled none (inl (c, inr (inl one))) = run_not_end _ _ (sym one.spelled)
no_end b text ruled none (inl (c, inr (inr one))) = end_not_part one.part _ one.spelled
no_end b text ruled none (inr ends) = none ends

-- a word that no other line begins with
pub record IsOtherWord (id : List ℕ) : Type 0 where
  pub word : IsWord id
  pub not_run : id ≡ codes "@run" → ⊥
  pub not_item : id ≡ codes "@item" → ⊥
  pub not_pull : id ≡ codes "@pull" → ⊥
  pub not_end : id ≡ codes "@end" → ⊥

pub no_entry : (b : ReportSoFar) (id text : List ℕ) → IsOtherWord id → IsRuled b
    → ((e : Entry) (c : ReportSoFar) → IsEntry e → text ≡ entry_text e → with_entry b id e ≡ Some c → ⊥) → MayStand b (id ++ 32 ∷ text) → ⊥
no_entry b id text other ruled none (inl (c, inl one)) =
    let (same, rest) = cut_once 32 id one.id text (entry_text one.entry) other.word (id_lacks 32 one.id (omega arith) (entry_id b c one.id one.entry ruled one.added)) one.spelled in
    none one.entry c one.good rest (ap (λ i. with_entry b i one.entry) same ∙ one.added)
no_entry b id text other ruled none (inl (c, inr (inl one))) = other.not_run (cut_once 32 id (codes "@run") text _ other.word refl one.spelled).0
no_entry b id text other ruled none (inl (c, inr (inr one))) = go one.part one.spelled
  where
    go : (part : GivenPart) → id ++ 32 ∷ text ≡ part_text part → ⊥
    go (GivenPart.Item v) spelled = other.not_item (cut_once 32 id (codes "@item") text (json_of v) other.word refl spelled).0
    go (GivenPart.Pull p) spelled = other.not_pull (cut_once 32 id (codes "@pull") text (pull_words p) other.word refl spelled).0
no_entry b id text other ruled none (inr ends) = other.not_end (cut_once 32 id (codes "@end") text _ other.word refl ends.0).0

pub entry_steps : (b c : ReportSoFar) (id text : List ℕ) (step : Step) → IsOtherWord id → IsRuled b → EntrySteps step b id text c → Steps step b (id ++ 32 ∷ text) c
entry_steps b c id text Step.Taken other ruled steps = steps
entry_steps b c id text Step.End other ruled steps = absurd steps
entry_steps b c id text Step.Refused other ruled steps = no_entry b id text other ruled steps

pub end_steps : (b : ReportSoFar) (text : List ℕ) (step : Step) → IsRuled b → EndsBy step b text → Steps step b (codes "@end" ++ 32 ∷ text) b
end_steps b text Step.Taken ruled ends = absurd ends
end_steps b text Step.End ruled ends = (ends, refl)
end_steps b text Step.Refused ruled ends = no_end b text ruled ends
