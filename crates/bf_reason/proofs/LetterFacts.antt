-- Letters beside states.
use Rattle.std.proofs.Common.{◌≡◌, ℕ, Bool, true, false, not, ◌&&◌, ◌||◌, ◌==◌, if◌then◌else◌, List, [], ◌∷◌, length, refl, ◌∙◌}
use Rattle.std.specs.List.{list_any}
use Rattle.std.specs.Str.{byte}
use Rattle.std.proofs.lemmas.Bool.{cond_both}
use Rattle.bf_core.specs.Terms.{Outcome, is_failed}
use Rattle.bf_report.specs.declared.report.InstanceReport.{InstanceReport}
use Rattle.bf_report.specs.declared.report.TaskReport.{TaskReport}
use Rattle.bf_reason.specs.declared.cause.StateCause.{StateCause}
use Rattle.bf_reason.specs.Reasons.{decided_for, Reason, not_followed, rule_fails, branch_is_blocked, runs}
use Rattle.bf_reason.specs.Causes.{cause_of}
use Rattle.std.specs.Char.{is_ascii_digit}
use Rattle.bf_reason.specs.Letters.{any_letter, letter_by_flags_of, follows, ended_letter_of, instance_letter, expanded_letter, digit_for, foreign_letter, letter_for, success, failed, skipped, upstream_failed, no_status, state_of_outcome, told_state, is_success, state_of_instances, state_of}

-- ---- without a try

skipped_told : (expanded : Bool) (why : StateCause) → told_state (letter_for expanded why TaskReport.Skipped) ≡ skipped
skipped_told expanded StateCause.NotFollowed = refl
skipped_told expanded _ = refl

upstream_failed_told : (expanded : Bool) (why : StateCause) → told_state (letter_for expanded why TaskReport.UpstreamFailed) ≡ upstream_failed
upstream_failed_told expanded StateCause.RuleFails = refl
upstream_failed_told expanded _ = refl

no_status_told : (expanded : Bool) (why : StateCause) → told_state (letter_for expanded why TaskReport.NoStatus) ≡ no_status
no_status_told expanded StateCause.BranchIsBlocked = refl
no_status_told expanded _ = refl

-- ---- one instance

first_or_later : (first : Bool) → told_state (if first then byte "s" else byte "r") ≡ success
first_or_later true = refl
first_or_later false = refl

ended_told : (outcome : Outcome) (tries : ℕ) → told_state (ended_letter_of outcome tries) ≡ state_of_outcome outcome
ended_told (Outcome.Success value) tries = first_or_later (tries == 1)
ended_told Outcome.Failed tries = refl
ended_told Outcome.Skipped tries = refl

digit_told : (outcome : Outcome) → told_state (digit_for (byte "1") outcome) ≡ state_of_outcome outcome
digit_told (Outcome.Success value) = refl
digit_told Outcome.Failed = refl
digit_told Outcome.Skipped = refl

ran_told : (expanded : Bool) (why : StateCause) (instance : InstanceReport) → told_state (letter_for expanded why (TaskReport.Ran instance)) ≡ state_of_outcome instance.result.outcome
ran_told true (StateCause.Runs count) instance = digit_told instance.result.outcome
ran_told false (StateCause.Runs count) instance = ended_told instance.result.outcome instance.result.tries
ran_told expanded _ instance = digit_told instance.result.outcome

-- ---- instances

is_f : (first : Bool) → ((if first then byte "s" else byte "r") == byte "f") ≡ false
is_f true = refl
is_f false = refl

failed_letter : (outcome : Outcome) (tries : ℕ) → (ended_letter_of outcome tries == byte "f") ≡ is_failed outcome
failed_letter (Outcome.Success value) tries = is_f (tries == 1)
failed_letter Outcome.Failed tries = refl
failed_letter Outcome.Skipped tries = refl

is_r_or_s : (first : Bool) → (((if first then byte "s" else byte "r") == byte "r") || ((if first then byte "s" else byte "r") == byte "s")) ≡ true
is_r_or_s true = refl
is_r_or_s false = refl

success_letter : (outcome : Outcome) (tries : ℕ) → ((ended_letter_of outcome tries == byte "r") || (ended_letter_of outcome tries == byte "s")) ≡ is_success outcome
success_letter (Outcome.Success value) tries = is_r_or_s (tries == 1)
success_letter Outcome.Failed tries = refl
success_letter Outcome.Skipped tries = refl

any_failed : (instances : List InstanceReport) → any_letter (byte "f") instances ≡ list_any (λ (instance : InstanceReport). is_failed instance.result.outcome) instances
any_failed [] = refl
any_failed (instance ∷ instances) = λ i. failed_letter instance.result.outcome instance.result.tries i || any_failed instances i

two_by_two : (a b c d : Bool) → ((a || b) || (c || d)) ≡ ((a || c) || (b || d))
two_by_two true b c d = refl
two_by_two false true true d = refl
two_by_two false true false d = refl
two_by_two false false c d = refl

any_success : (instances : List InstanceReport) → (any_letter (byte "r") instances || any_letter (byte "s") instances) ≡ list_any (λ (instance : InstanceReport). is_success instance.result.outcome) instances
any_success [] = refl
any_success (instance ∷ instances) =
    two_by_two (instance_letter instance == byte "r") (any_letter (byte "r") instances) (instance_letter instance == byte "s") (any_letter (byte "s") instances)
    ∙ (λ i. success_letter instance.result.outcome instance.result.tries i || any_success instances i)

-- the letters by which instances there are
upper_told : (some_f some_r some_s : Bool) →
    told_state (if letter_by_flags_of some_f some_r some_s == byte "f" then byte "F" else (if letter_by_flags_of some_f some_r some_s == byte "r" then byte "R" else (if letter_by_flags_of some_f some_r some_s == byte "s" then byte "S" else byte "X")))
    ≡ (if some_f then failed else (if some_r || some_s then success else skipped))
upper_told true some_r some_s = refl
upper_told false true some_s = refl
upper_told false false true = refl
upper_told false false false = refl

digits_told : (some_f some_r some_s : Bool) →
    told_state (if letter_by_flags_of some_f some_r some_s == byte "f" then byte "8" else (if letter_by_flags_of some_f some_r some_s == byte "x" then byte "9" else byte "7"))
    ≡ (if some_f then failed else (if some_r || some_s then success else skipped))
digits_told true some_r some_s = refl
digits_told false true some_s = refl
digits_told false false true = refl
digits_told false false false = refl

by_outcomes : (instances : List InstanceReport) →
    (if any_letter (byte "f") instances then failed else (if any_letter (byte "r") instances || any_letter (byte "s") instances then success else skipped)) ≡ state_of_instances instances
by_outcomes instances = λ i. if any_failed instances i then failed else (if any_success instances i then success else skipped)

expanded_told : (instances : List InstanceReport) → told_state (expanded_letter instances) ≡ state_of_instances instances
expanded_told instances = upper_told (any_letter (byte "f") instances) (any_letter (byte "r") instances) (any_letter (byte "s") instances) ∙ by_outcomes instances

foreign_told : (instances : List InstanceReport) → told_state (foreign_letter (TaskReport.Mapped instances)) ≡ state_of_instances instances
foreign_told instances = digits_told (any_letter (byte "f") instances) (any_letter (byte "r") instances) (any_letter (byte "s") instances) ∙ by_outcomes instances

mapped_told : (expanded : Bool) (why : StateCause) (instances : List InstanceReport) → told_state (letter_for expanded why (TaskReport.Mapped instances)) ≡ state_of_instances instances
mapped_told expanded (StateCause.Runs count) instances =
    cond_both (expanded && length instances == count) (expanded_letter instances) (foreign_letter (TaskReport.Mapped instances)) (λ letter. told_state letter ≡ state_of_instances instances) (λ _. expanded_told instances) (λ _. foreign_told instances)
mapped_told expanded _ instances = foreign_told instances

pub letter_told : (expanded : Bool) (why : StateCause) (task : TaskReport) → told_state (letter_for expanded why task) ≡ state_of task
letter_told expanded why TaskReport.NoStatus = no_status_told expanded why
letter_told expanded why TaskReport.Skipped = skipped_told expanded why
letter_told expanded why TaskReport.UpstreamFailed = upstream_failed_told expanded why
letter_told expanded why (TaskReport.Ran instance) = ran_told expanded why instance
letter_told expanded why (TaskReport.Mapped instances) = mapped_told expanded why instances

-- ---- digits

no_digit_first : (first : Bool) → is_ascii_digit (if first then byte "s" else byte "r") ≡ false
no_digit_first true = refl
no_digit_first false = refl

no_digit_ended : (outcome : Outcome) (tries : ℕ) → is_ascii_digit (ended_letter_of outcome tries) ≡ false
no_digit_ended (Outcome.Success value) tries = no_digit_first (tries == 1)
no_digit_ended Outcome.Failed tries = refl
no_digit_ended Outcome.Skipped tries = refl

digit_foreign : (outcome : Outcome) → is_ascii_digit (digit_for (byte "1") outcome) ≡ true
digit_foreign (Outcome.Success value) = refl
digit_foreign Outcome.Failed = refl
digit_foreign Outcome.Skipped = refl

no_digit_upper : (some_f some_r some_s : Bool) →
    is_ascii_digit (if letter_by_flags_of some_f some_r some_s == byte "f" then byte "F" else (if letter_by_flags_of some_f some_r some_s == byte "r" then byte "R" else (if letter_by_flags_of some_f some_r some_s == byte "s" then byte "S" else byte "X"))) ≡ false
no_digit_upper true some_r some_s = refl
no_digit_upper false true some_s = refl
no_digit_upper false false true = refl
no_digit_upper false false false = refl

digit_digits : (some_f some_r some_s : Bool) →
    is_ascii_digit (if letter_by_flags_of some_f some_r some_s == byte "f" then byte "8" else (if letter_by_flags_of some_f some_r some_s == byte "x" then byte "9" else byte "7")) ≡ true
digit_digits true some_r some_s = refl
digit_digits false true some_s = refl
digit_digits false false true = refl
digit_digits false false false = refl

no_digit_expanded : (instances : List InstanceReport) → is_ascii_digit (expanded_letter instances) ≡ false
no_digit_expanded instances = no_digit_upper (any_letter (byte "f") instances) (any_letter (byte "r") instances) (any_letter (byte "s") instances)

digit_mapped : (instances : List InstanceReport) → is_ascii_digit (foreign_letter (TaskReport.Mapped instances)) ≡ true
digit_mapped instances = digit_digits (any_letter (byte "f") instances) (any_letter (byte "r") instances) (any_letter (byte "s") instances)

either_digit : (same : Bool) (instances : List InstanceReport) → is_ascii_digit (if same then expanded_letter instances else foreign_letter (TaskReport.Mapped instances)) ≡ not same
either_digit true instances = no_digit_expanded instances
either_digit false instances = digit_mapped instances

abbrev Tells : Bool → Reason → TaskReport → Type 0
Tells expanded why task = is_ascii_digit (letter_for expanded (cause_of why) task) ≡ not (follows expanded (decided_for why) task)

skipped_digit : (expanded : Bool) (why : Reason) → Tells expanded why TaskReport.Skipped
skipped_digit expanded not_followed = refl
skipped_digit expanded _ = refl

upstream_failed_digit : (expanded : Bool) (why : Reason) → Tells expanded why TaskReport.UpstreamFailed
upstream_failed_digit expanded rule_fails = refl
upstream_failed_digit expanded _ = refl

no_status_digit : (expanded : Bool) (why : Reason) → Tells expanded why TaskReport.NoStatus
no_status_digit expanded branch_is_blocked = refl
no_status_digit expanded _ = refl

ran_digit : (expanded : Bool) (why : Reason) (instance : InstanceReport) → Tells expanded why (TaskReport.Ran instance)
ran_digit true (runs given) instance = digit_foreign instance.result.outcome
ran_digit false (runs given) instance = no_digit_ended instance.result.outcome instance.result.tries
ran_digit expanded _ instance = digit_foreign instance.result.outcome

mapped_digit : (expanded : Bool) (why : Reason) (instances : List InstanceReport) → Tells expanded why (TaskReport.Mapped instances)
mapped_digit expanded (runs given) instances = either_digit (expanded && length instances == length given) instances
mapped_digit expanded _ instances = digit_mapped instances

pub digits_tell : (expanded : Bool) (why : Reason) (task : TaskReport) → is_ascii_digit (letter_for expanded (cause_of why) task) ≡ not (follows expanded (decided_for why) task)
digits_tell expanded why TaskReport.NoStatus = no_status_digit expanded why
digits_tell expanded why TaskReport.Skipped = skipped_digit expanded why
digits_tell expanded why TaskReport.UpstreamFailed = upstream_failed_digit expanded why
digits_tell expanded why (TaskReport.Ran instance) = ran_digit expanded why instance
digits_tell expanded why (TaskReport.Mapped instances) = mapped_digit expanded why instances
