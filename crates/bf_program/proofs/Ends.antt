-- How lines end.
use Rattle.std.proofs.Common.{◌≡◌, ◌≢◌, ◌≤◌, ℕ, Bool, true, false, List, [], ◌∷◌, Option, None, Some, Result, Ok, Err, IfOk, IfErr, IsErr, IsSome, OnErr, OnOk, refl, sym, inl, inr, ap, ◌∙◌, subst, length, take, arith}
use Rattle.std.proofs.lemmas.Result.{IfErr-weaker}
use Rattle.clap.specs.Words.{HasKind, IsAmong, Kinds, Row, Text, kind_of}
use Rattle.clap.specs.declared.error.Error.{Error}
use Rattle.clap.specs.declared.error.kind.ErrorKind.{ErrorKind}
use Rattle.clap.specs.declared.error.kind.ErrorKind.TheVariants as kind
use Rattle.bf_command_line.specs.declared.forms.Asked.{Asked}
use Rattle.bf_command_line.specs.declared.forms.Asked.TheVariants as asked
use Rattle.bf_command_line.specs.Asked.{IsLineBy}
use Rattle.bf_command_line.specs.declared.forms.CommandLine.{CommandLine}
use Rattle.bf_device.specs.declared.sending.Cause.TheVariants as cause
use Rattle.bf_device.specs.declared.sending.WriteFault.{WriteFault}
use Rattle.bf_device.specs.Device.{sent}
use Rattle.bf_command_fault.specs.Refusal.{Leaves, Sends, number_of, of_write}
use Rattle.bf_command_fault.specs.Status.{code_of, of_runs}
use Rattle.bf_command_fault.specs.declared.fault.CommandFault.{CommandFault}
use Rattle.bf_command_fault.specs.declared.fault.CommandFault.TheVariants.{CannotWrite, OutOfMemory}
use Rattle.bf_command_fault.specs.declared.status.Status.{Status}
use Rattle.bf_command_fault.proofs.Leaving.{leaves_due, refusal_leaves, send_leaves}
use Rattle.bf_planning.proofs.Faults.{write_wanting}
use Rattle.bf_commands.specs.Programs.{Hearing, Losing}
use Rattle.bf_disk.specs.Files.{Files}
use Rattle.bf_views.specs.declared.canvas.Canvas.{Canvas}
use Rattle.bf_backfills.specs.Commands.{Machine}
use Rattle.bf_command_line.specs.Naming.{logs_of}
use Rattle.bf_input.specs.Overwriting.{IsOverwriting, IsSparing, Leads, MayMiss}
use Rattle.bf_program.specs.Commands.{HasGone, IsAnswer, IsApartBy, IsDone, IsRefusedOut, Outputs, SparesBy, out_of, outputs}
use Rattle.bf_program.specs.CommandFaults.{IsFault, IsFaultBy, LeavesBy, LeavesFiled, MayBeFaulted, MayTell, Tells}
use Rattle.bf_file.specs.Replacing.{HasReplaced}
use Rattle.bf_program.specs.Shown.{EndsAs, IsUnshown, ShowsHelp, shown_as}

-- ---- lines that `clap` answers

-- a fault may stand in the place of every end
pub fault_ends : (kinds : Kinds) → EndsAs kinds 3
fault_ends [] = refl
fault_ends (k ∷ ks) = inr (fault_ends ks)

kind_ends : (kinds : Kinds) (k : ErrorKind) → IsAmong k kinds → EndsAs kinds (code_of (shown_as k))
kind_ends [] k h = elim h [ ]
kind_ends (x ∷ xs) k (inl e) = inl (ap (λ y. code_of (shown_as y)) e)
kind_ends (x ∷ xs) k (inr h) = inr (kind_ends xs k h)

-- a line whose error is shown ends as its kind says
pub shown_ends : (kinds : Kinds) (e : Error) (r : Result Status CommandFault) → HasKind kinds e
    → (kind_of e ≡ kind.OutOfMemory → IsErr r) → IfOk r (λ s. s ≡ shown_as (kind_of e))
    → IfOk r (λ s. EndsAs kinds (code_of s))
shown_ends kinds e (Err f) has memory ok = tt
shown_ends kinds e (Ok s) (inl none) memory ok = let bad = memory none in cc
shown_ends kinds e (Ok s) (inr among) memory ok = rw ok (kind_ends kinds (kind_of e) among)

-- what doesn't go to standard error is help
pub help_by : (k : ErrorKind) (stderr : Bool) → ((k ≢ kind.DisplayHelp) × (k ≢ kind.DisplayVersion) → stderr ≡ true) → stderr ≡ false → shown_as k ≡ Status.Success
help_by kind.DisplayHelp stderr goes other = refl
help_by kind.DisplayVersion stderr goes other = refl
help_by k stderr goes other = let goes_there : stderr ≡ true = goes ((λ is. (cc)), (λ is. (cc))) in cc

-- help that the device doesn't take
pub help_unshown : (Halted IsHelp : Type 0) (before after : Option (List ℕ)) (text : List ℕ) → IsHelp → (fault : WriteFault) → (fault.sent ≤ length text) × (after ≡ sent before (take fault.sent text)) → fault.cause ≡ cause.Io → Halted
    → IsUnshown IsHelp Halted before after (of_write fault)
help_unshown Halted IsHelp before after text help fault part only halted = (write_wanting fault, send_leaves Halted (λ due. IsHelp) before after text help fault part only halted)

help_among : (kinds : Kinds) (k : ErrorKind) → shown_as k ≡ Status.Success → IsAmong k kinds → ShowsHelp kinds
help_among [] k help among = elim among [ ]
help_among (x ∷ xs) k help (inl e) = inl (ap shown_as (sym e) ∙ help)
help_among (x ∷ xs) k help (inr among) = inr (help_among xs k help among)

help_of : (kinds : Kinds) (e : Error) → HasKind kinds e → shown_as (kind_of e) ≡ Status.Success → ShowsHelp kinds
help_of kinds e (inl none) help = let bad : Status.Refused ≡ Status.Success = ap shown_as (sym none) ∙ help in cc
help_of kinds e (inr among) help = help_among kinds (kind_of e) help among

-- why an error isn't shown is why its line isn't
pub line_unshown : (Halted : Type 0) (before after : Option (List ℕ)) (kinds : Kinds) (e : Error) (r : Result Status CommandFault) → HasKind kinds e
    → IfErr r (IsUnshown (shown_as (kind_of e) ≡ Status.Success) Halted before after) → IfErr r (IsUnshown (ShowsHelp kinds) Halted before after)
line_unshown Halted before after kinds e r has =
    IfErr-weaker r _ _ (λ fault is. (is.0, leaves_due Halted (λ text. shown_as (kind_of e) ≡ Status.Success) (λ text. ShowsHelp kinds) (λ text help. help_of kinds e has help) before after fault is.1))

among_none : (kinds : Kinds) (k : ErrorKind) → kinds ≡ [] → IsAmong k kinds → ⊥
among_none kinds k none among = let is : IsAmong k [] = subst (λ (ks : Kinds). IsAmong k ks) none among in elim is [ ]

-- what went out is as it was, where each part of it is
both : (before after : Outputs) → after.written ≡ before.written → after.placed ≡ before.placed → after.left ≡ before.left → after ≡ before
both before after written placed left =
    ap (λ w. outputs w after.placed after.left) written ∙ ap (λ p. outputs before.written p after.left) placed
    ∙ ap (λ l. outputs before.written before.placed l) left

-- where `clap` finds nothing wrong, memory was wanting
pub shown_may : (may_hear : Hearing) (may_lose : Losing) (canvas : Canvas) (files : Files) (machine : Machine) (leads : Leads) (matched : Option (Text × List Row))
    (Halted HasFailed : Type 0) (before after : Outputs) (kinds : Kinds) (e : Error) (r : Result Status CommandFault)
    → HasKind kinds e → kinds ≡ [] → (kind_of e ≡ kind.OutOfMemory → IfErr r (λ f. f ≡ OutOfMemory))
    → (kind_of e ≡ kind.OutOfMemory → after.written ≡ before.written) → after.placed ≡ before.placed → after.left ≡ before.left
    → IfErr r (MayBeFaulted may_hear may_lose canvas files machine leads matched Halted HasFailed before after)
shown_may may_hear may_lose canvas files machine leads matched Halted HasFailed before after kinds e (Ok s) has none wanting kept same unleft = tt
shown_may may_hear may_lose canvas files machine leads matched Halted HasFailed before after kinds e (Err f) (inl memory) none wanting kept same unleft =
    subst (λ (x : CommandFault). MayBeFaulted may_hear may_lose canvas files machine leads matched Halted HasFailed before after x)
    (sym (wanting memory)) (both before after (kept memory) same unleft)
shown_may may_hear may_lose canvas files machine leads matched Halted HasFailed before after kinds e (Err f) (inr among) none wanting kept same unleft =
    absurd (among_none kinds (kind_of e) none among)

-- ---- answers

runs_low : (success : Bool) → code_of (of_runs success) ≤ 1
runs_low true = omega arith
runs_low false = omega arith

-- a command that answers ends with 0 or 1
answer_low : (may_hear : Hearing) (canvas : Canvas) (files : Files) (machine : Machine) (asked : Asked) (text : List ℕ) (status : Status) → IsAnswer may_hear canvas files machine asked text status → code_of status ≤ 1
answer_low may_hear canvas files machine (asked.Check a) text status is = rw is.success (omega arith)
answer_low may_hear canvas files machine (asked.List a) text status is = rw is.success (omega arith)
answer_low may_hear canvas files machine (asked.ClearPlan a) text status is = rw is.success (omega arith)
answer_low may_hear canvas files machine (asked.Show a) text status is = rw is.success (omega arith)
answer_low may_hear canvas files machine (asked.ShowJson path) text status is = rw is.success (omega arith)
answer_low may_hear canvas files machine (asked.Page a) text status is = rw is.success (omega arith)
answer_low may_hear canvas files machine (asked.Explain a) text status is = rw is.success (omega arith)
answer_low may_hear canvas files machine (asked.Answers path) text status is = rw is.success (omega arith)
answer_low may_hear canvas files machine (asked.Schema format) text status is = rw is.0 (omega arith)
answer_low may_hear canvas files machine (asked.Completions shell) text status is = rw is.0 (omega arith)
answer_low may_hear canvas files machine a text status is = rw is.status_is (runs_low is.succeeded)

pub done_low : (may_hear : Hearing) (canvas : Canvas) (files : Files) (machine : Machine) (leads : Leads) (matched : Option (Text × List Row)) (before after : Outputs) (code : ℕ) → IsDone may_hear canvas files machine leads matched before after code → code ≤ 1
done_low may_hear canvas files machine leads matched before after code is = rw is.code_is (answer_low may_hear canvas files machine is.line.command is.text is.status is.answer)

-- and with nothing else
low_other : (s t : Status) → code_of s ≤ 1 → 2 ≤ code_of t → s ≢ t
low_other s t low high = λ same. (let is : code_of s ≡ code_of t = ap code_of same in omega arith)

-- what ends with 0 or 1 isn't refused
done_at : (P : ℕ → Type 0) (s : Status) (code : ℕ) → code ≡ code_of s → code ≤ 1 → (s ≢ Status.Refused → P (code_of s)) → P code
done_at P s code is low done = subst P (sym is) (done (λ refused. (let two : code ≡ 2 = is ∙ ap code_of refused in omega (arith, low, two))))

pub done_code : (may_hear : Hearing) (canvas : Canvas) (files : Files) (machine : Machine) (leads : Leads) (matched : Option (Text × List Row)) (before after : Outputs) (s : Status) (code : ℕ) → code ≡ code_of s → code ≤ 1
    → (s ≢ Status.Refused → IsDone may_hear canvas files machine leads matched before after (code_of s)) → IsDone may_hear canvas files machine leads matched before after code
done_code may_hear canvas files machine leads matched before after s code is low done =
    done_at (λ (n : ℕ). IsDone may_hear canvas files machine leads matched before after n) s code is low done

-- and what ends with 2 is
pub refused_at : (R : Type 0) (s : Status) (code : ℕ) → code ≡ code_of s → 2 ≤ code → s ≢ Status.Fault
    → (s ≡ Status.Refused → R) → (code ≡ 2) × R
refused_at R Status.Success code is high fault refused = absurd (let none : code ≡ 0 = is in omega (arith, high, none))
refused_at R Status.Failed code is high fault refused = absurd (let one : code ≡ 1 = is in omega (arith, high, one))
refused_at R Status.Refused code is high fault refused = (is, refused refl)
refused_at R Status.Fault code is high fault refused = absurd (fault refl)

-- what a line comes to with which nothing is wrong
abbrev pub LineEnds : {E : Type 0} → Hearing → Losing → Canvas → Files → Machine → Leads → Option (Text × List Row) → Type 0 → Type 0
    → Outputs → Outputs → Kinds → Option (List ℕ) → Option (List ℕ) → E → E → Result Status CommandFault → Type 0
LineEnds may_hear may_lose canvas files machine leads matched Halted HasFailed before after kinds told now err err_now r = record {
  range : IfOk r (λ s. s ≢ Status.Fault);
  answered : IfOk r (λ s. s ≢ Status.Refused → now ≡ told);
  wrong : IfOk r (λ s. s ≡ Status.Refused → after.written ≡ before.written);
  refused : IfErr r (λ f. IsSome (number_of f) → after.written ≡ before.written);
  untouched : OnErr r (err_now ≡ err);
  line : kinds ≢ [] → IfOk r (λ s. EndsAs kinds (code_of s));
  fault : kinds ≢ [] → IfErr r (λ f. number_of f ≡ None);
  unshown : kinds ≢ [] → IfErr r (IsUnshown (ShowsHelp kinds) Halted before.written after.written);
  done : kinds ≡ [] → IfOk r (λ s. s ≢ Status.Refused → IsDone may_hear canvas files machine leads matched before after (code_of s));
  kept : kinds ≢ [] → after.placed ≡ before.placed;
  unleft : kinds ≢ [] → after.left ≡ before.left;
  overwriting : kinds ≡ [] → IfOk r (λ s. s ≡ Status.Refused → IsRefusedOut leads matched × (after ≡ before));
  why : kinds ≡ [] → IfErr r (λ f. MayBeFaulted may_hear may_lose canvas files machine leads matched Halted HasFailed before after f);
}

-- it comes to what the command comes to that it asks for
module _ (may_hear : Hearing) (may_lose : Losing) (canvas : Canvas) (files : Files) (machine : Machine) (leads : Leads) (matched : Option (Text × List Row))
    (Halted HasFailed : Type 0) (before after : Outputs) (line : CommandLine) where
  abbrev IsDue : List ℕ → Type 0
  IsDue text = (status : Status) × IsAnswer may_hear canvas files machine line.command text status

  abbrev IsLeft : CommandFault → Type 0
  IsLeft = LeavesBy (out_of line) Halted IsDue before after

  abbrev Goes : Option (List ℕ) → Status → Type 0
  Goes path s = (text : List ℕ) × IsAnswer may_hear canvas files machine line.command text s × HasGone path text before after

  memory_leaves : (path : Option (List ℕ)) → LeavesBy path Halted IsDue before after OutOfMemory → after ≡ before
  memory_leaves None left = both before after left.0 left.1 left.2
  memory_leaves (Some path) left = both before after left.0 left.1 left.2

  refusal_left : (path : Option (List ℕ)) (fault : CommandFault) → LeavesBy path Halted IsDue before after fault → IsSome (number_of fault) → after.written ≡ before.written
  refusal_left None fault left some = refusal_leaves Halted IsDue before.written after.written fault left.0 some
  refusal_left (Some path) fault left some = left.0

  may : IsLineBy matched line → SparesBy leads (out_of line) line.command → (fault : CommandFault)
      → IsFaultBy leads (out_of line) HasFailed may_lose files machine line.command fault → IsLeft fault
      → MayBeFaulted may_hear may_lose canvas files machine leads matched Halted HasFailed before after fault
  may asks spares OutOfMemory is left = memory_leaves (out_of line) left
  may asks spares fault is left = record { line = line; asks = asks; spares = spares; is_fault = is; left = left }

  own_line_ends : {E : Type 0} (kinds : Kinds) (told : Option (List ℕ)) (err : E) → IsLineBy matched line → kinds ≡ []
      → SparesBy leads (out_of line) line.command
      → (r : Result Status CommandFault) → OnOk r (IsApartBy leads (out_of line) line.command) → IfOk r (Goes (out_of line))
      → IfErr r (IsFaultBy leads (out_of line) HasFailed may_lose files machine line.command) → IfErr r IsLeft
      → LineEnds may_hear may_lose canvas files machine leads matched Halted HasFailed before after kinds told told err err r
  own_line_ends kinds told err asks none spares (Ok s) apart sends is left =
      let low = answer_low may_hear canvas files machine line.command sends.0 s sends.1 in
      record {
        range = low_other s Status.Fault low (omega arith);
        answered = λ other. refl;
        wrong = λ refused. absurd (low_other s Status.Refused low (omega arith) refused);
        refused = tt;
        untouched = tt;
        line = λ some. absurd (some none);
        fault = λ some. tt;
        unshown = λ some. tt;
        done = λ fine other. record { line = line; asks = asks; text = sends.0; status = s; answer = sends.1; spares = spares; apart = apart; gone = sends.2; code_is = refl };
        kept = λ some. absurd (some none);
        unleft = λ some. absurd (some none);
        overwriting = λ fine refused. absurd (low_other s Status.Refused low (omega arith) refused);
        why = λ fine. tt;
      }
  own_line_ends kinds told err asks none spares (Err f) apart sends is left = record {
    range = tt;
    answered = tt;
    wrong = tt;
    refused = refusal_left (out_of line) f left;
    untouched = refl;
    line = λ some. tt;
    fault = λ some. absurd (some none);
    unshown = λ some. absurd (some none);
    done = λ fine. tt;
    kept = λ some. absurd (some none);
    unleft = λ some. absurd (some none);
    overwriting = λ fine. tt;
    why = λ fine. may asks spares f is left;
  }

  -- where it is known whether a file is named
  line_ends : {E : Type 0} (kinds : Kinds) (told : Option (List ℕ)) (err : E) → IsLineBy matched line → kinds ≡ []
      → (path : Option (List ℕ)) → out_of line ≡ path → SparesBy leads path line.command
      → (r : Result Status CommandFault) → OnOk r (IsApartBy leads path line.command)
      → IfOk r (Goes path) → IfErr r (IsFaultBy leads path HasFailed may_lose files machine line.command)
      → IfErr r (LeavesBy path Halted IsDue before after)
      → LineEnds may_hear may_lose canvas files machine leads matched Halted HasFailed before after kinds told told err err r
  line_ends kinds told err asks none path named spares r apart sends is left = own_line_ends kinds told err asks none
      (subst (λ (p : Option (List ℕ)). SparesBy leads p line.command) (sym named) spares) r
      (subst (λ (p : Option (List ℕ)). OnOk r (IsApartBy leads p line.command)) (sym named) apart)
      (subst (λ (p : Option (List ℕ)). IfOk r (Goes p)) (sym named) sends)
      (subst (λ (p : Option (List ℕ)). IfErr r (IsFaultBy leads p HasFailed may_lose files machine line.command)) (sym named) is)
      (subst (λ (p : Option (List ℕ)). IfErr r (LeavesBy p Halted IsDue before after)) (sym named) left)

  -- where none is, and the text goes to standard output
  pub printed_ends : {E : Type 0} (kinds : Kinds) (told : Option (List ℕ)) (err : E) → IsLineBy matched line → kinds ≡ []
      → out_of line ≡ None → after.placed ≡ before.placed → after.left ≡ before.left → (r : Result Status CommandFault)
      → IfOk r (λ s. Sends (λ text. IsAnswer may_hear canvas files machine line.command text s) before.written after.written)
      → IfErr r (IsFault may_lose files machine line.command) → IfErr r (Leaves Halted IsDue before.written after.written)
      → LineEnds may_hear may_lose canvas files machine leads matched Halted HasFailed before after kinds told told err err r
  printed_ends kinds told err asks none named same unleft (Ok s) sends is left =
      line_ends kinds told err asks none None named tt (Ok s) tt (sends.0, sends.1, (sends.2, same, unleft)) tt tt
  printed_ends kinds told err asks none named same unleft (Err f) sends is left =
      line_ends kinds told err asks none None named tt (Err f) tt tt is (left, same, unleft)

  -- and where it goes to a file
  pub filed_ends : {E : Type 0} (kinds : Kinds) (told : Option (List ℕ)) (err : E) → IsLineBy matched line → kinds ≡ []
      → (path : List ℕ) → out_of line ≡ Some path → after.written ≡ before.written → IsSparing leads line.command path
      → (r : Result Status CommandFault) → OnOk r (MayMiss leads.same (logs_of line.command) path)
      → IfOk r (λ s. (text : List ℕ) × IsAnswer may_hear canvas files machine line.command text s × HasReplaced before.placed after.placed path text)
      → IfErr r (IsFaultBy leads (Some path) HasFailed may_lose files machine line.command) → OnErr r (after.placed ≡ before.placed)
      → OnOk r (after.left ≡ before.left) → IfErr r (LeavesFiled IsDue before.left after.left)
      → LineEnds may_hear may_lose canvas files machine leads matched Halted HasFailed before after kinds told told err err r
  filed_ends kinds told err asks none path named silent spares (Ok s) apart filed is same unleft left =
      line_ends kinds told err asks none (Some path) named spares (Ok s) apart (filed.0, filed.1, (silent, filed.2, unleft)) tt tt
  filed_ends kinds told err asks none path named silent spares (Err f) apart filed is same unleft left =
      line_ends kinds told err asks none (Some path) named spares (Err f) tt tt is (silent, same, left)

  -- or where it would be written over what the command names
  pub refused_ends : {E : Type 0} (kinds : Kinds) (told now : Option (List ℕ)) (err err_now : E) → IsLineBy matched line → kinds ≡ []
      → (path : List ℕ) → out_of line ≡ Some path → IsOverwriting leads line.command path → after ≡ before
      → (r : Result Status CommandFault) → IfOk r (λ s. s ≡ Status.Refused) → IfErr r (λ f. f ≡ OutOfMemory)
      → OnErr r (err_now ≡ err)
      → LineEnds may_hear may_lose canvas files machine leads matched Halted HasFailed before after kinds told now err err_now r
  refused_ends kinds told now err err_now asks none path named overwrites same (Ok s) refused memory untouched = record {
    range = λ fault. let bad : Status.Refused ≡ Status.Fault = sym refused ∙ fault in cc;
    answered = λ other. absurd (other refused);
    wrong = λ is. ap (λ (o : Outputs). o.written) same;
    refused = tt;
    untouched = tt;
    line = λ some. absurd (some none);
    fault = λ some. tt;
    unshown = λ some. tt;
    done = λ fine other. absurd (other refused);
    kept = λ some. absurd (some none);
    unleft = λ some. absurd (some none);
    overwriting = λ fine is. (record { line = line; asks = asks; path = path; out_is = named; overwrites = overwrites }, same);
    why = λ fine. tt;
  }
  refused_ends kinds told now err err_now asks none path named overwrites same (Err f) refused memory untouched = record {
    range = tt;
    answered = tt;
    wrong = tt;
    refused = λ some. ap (λ (o : Outputs). o.written) same;
    untouched = untouched;
    line = λ some. tt;
    fault = λ some. absurd (some none);
    unshown = λ some. absurd (some none);
    done = λ fine. tt;
    kept = λ some. absurd (some none);
    unleft = λ some. absurd (some none);
    overwriting = λ fine. tt;
    why = λ fine. subst (λ (x : CommandFault). MayBeFaulted may_hear may_lose canvas files machine leads matched Halted HasFailed before after x) (sym memory) same;
  }

-- why the words of a wrong line aren't shown
pub words_unshown : (Halted : Type 0) (before after : Option (List ℕ)) (fault : CommandFault)
    → IsUnshown (shown_as kind.ArgumentConflict ≡ Status.Success) Halted before after fault → (fault ≡ OutOfMemory) × (after ≡ before)
words_unshown Halted before after OutOfMemory is = (refl, is.1)
words_unshown Halted before after (CannotWrite n) is = let bad : Status.Refused ≡ Status.Success = is.1.2 in cc
words_unshown Halted before after fault is = absurd is.0

-- so such a line is refused, or memory was wanting; and nothing of it goes out
module _ (k : ErrorKind) (r : Result Status CommandFault) where
  pub refused_by : k ≡ kind.ArgumentConflict → IfOk r (λ s. s ≡ shown_as k) → IfOk r (λ s. s ≡ Status.Refused)
  refused_by is shown = refused_of r shown
    where
      refused_of : (o : Result Status CommandFault) → IfOk o (λ s. s ≡ shown_as k) → IfOk o (λ s. s ≡ Status.Refused)
      refused_of (Ok s) as_shown = as_shown ∙ ap shown_as is
      refused_of (Err f) as_shown = tt

  module _ (Halted : Type 0) (before after : Option (List ℕ)) where
    abbrev Unshown : ErrorKind → CommandFault → Type 0
    Unshown x = IsUnshown (shown_as x ≡ Status.Success) Halted before after

    pub memory_by : k ≡ kind.ArgumentConflict → IfErr r (Unshown k) → IfErr r (λ f. f ≡ OutOfMemory)
    memory_by is unshown = memory_of r unshown
      where
        memory_of : (o : Result Status CommandFault) → IfErr o (Unshown k) → IfErr o (λ f. f ≡ OutOfMemory)
        memory_of (Ok s) un = tt
        memory_of (Err f) un = (words_unshown Halted before after f (subst (λ (x : ErrorKind). Unshown x f) is un)).0

    pub unwritten_by : k ≡ kind.ArgumentConflict → IfOk r (λ s. s ≡ shown_as k) → IfOk r (λ s. s ≡ Status.Refused → after ≡ before)
        → IfErr r (Unshown k) → after ≡ before
    unwritten_by is shown wrong unshown = unwritten_of r shown wrong unshown
      where
        unwritten_of : (o : Result Status CommandFault) → IfOk o (λ s. s ≡ shown_as k) → IfOk o (λ s. s ≡ Status.Refused → after ≡ before) → IfErr o (Unshown k) → after ≡ before
        unwritten_of (Ok s) as_shown as_wrong un = as_wrong (as_shown ∙ ap shown_as is)
        unwritten_of (Err f) as_shown as_wrong un = (words_unshown Halted before after f (subst (λ (x : ErrorKind). Unshown x f) is un)).1

-- ---- what is told

-- status 3 tells a fault
pub tells_three : (Halted : Type 0) (before after : Option (List ℕ)) (fault : CommandFault) (code : ℕ) → MayTell Halted before after fault code → code ≡ 3 → (f : CommandFault) × Tells Halted before after f 3
tells_three Halted before after fault code (inl tells) three = (fault, subst (λ (n : ℕ). Tells Halted before after fault n) three tells)
tells_three Halted before after fault code (inr tells) three = (OutOfMemory, subst (λ (n : ℕ). Tells Halted before after OutOfMemory n) three tells)
