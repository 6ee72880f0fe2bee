-- Lines that are read one after another.
use Rattle.std.proofs.Common.{◌≡◌, ◌+◌, ◌∙◌, ℕ, List, [], ◌∷◌, ◌++◌, Option, Some, None, length, map, refl, subst, sym, ap, append_assoc, append-nil, arith}
use Rattle.std.proofs.lemmas.List.{length-append, length-map, map-append}
use Rattle.bf_value.specs.declared.name.JobName.{JobName}
use Rattle.bf_value.specs.declared.xval.Xval.{Xval}
use Rattle.bf_value.specs.Json.{value_of_text}
use Rattle.bf_plan.specs.declared.plan.Dag.{Dag}
use Rattle.bf_interval.specs.declared.interval.Interval.{Interval}
use Rattle.bf_try.specs.declared.ledger.Entry.{Entry}
use Rattle.bf_journal.specs.Lines.{text_of_lines, whole_lines}
use Rattle.bf_journal.specs.Tells.{Tells, TellAll, TellsLine, TellsNone}
use Rattle.bf_journal.specs.Found.{AreRead, IsFirstBad}
use Rattle.bf_journal.specs.inner.Found.{AreOfTasks}

-- ---- tries that values tell

-- one more try, of one more value
tell_more : (dag : Dag) (intervals : List Interval) (values : List (Option Xval)) (tries : List (JobName × Entry)) (value : Xval) (n : JobName) (e : Entry) → TellAll dag intervals values tries → Tells dag intervals value n e
    → TellAll dag intervals (values ++ Some value ∷ []) (tries ++ (n, e) ∷ [])
tell_more dag intervals [] [] value n e all one = (one, tt)
tell_more dag intervals [] (t ∷ ts) value n e all one = absurd all
tell_more dag intervals (v ∷ vs) [] value n e all one = absurd all
tell_more dag intervals (None ∷ vs) (t ∷ ts) value n e all one = absurd all
tell_more dag intervals (Some v ∷ vs) (t ∷ ts) value n e all one = (all.0, tell_more dag intervals vs ts value n e all.1 one)

-- as many tries as values
as_many : (dag : Dag) (intervals : List Interval) (values : List (Option Xval)) (tries : List (JobName × Entry)) → TellAll dag intervals values tries → length tries ≡ length values
as_many dag intervals [] [] all = refl
as_many dag intervals [] (t ∷ ts) all = absurd all
as_many dag intervals (v ∷ vs) [] all = absurd all
as_many dag intervals (None ∷ vs) (t ∷ ts) all = absurd all
as_many dag intervals (Some v ∷ vs) (t ∷ ts) all = let rest = as_many dag intervals vs ts all.1 in omega (arith, rest)

-- of tasks that are there
pub told_of_tasks : (dag : Dag) (intervals : List Interval) (values : List (Option Xval)) (tries : List (JobName × Entry)) → TellAll dag intervals values tries → AreOfTasks dag tries
told_of_tasks dag intervals [] [] all = tt
told_of_tasks dag intervals [] (t ∷ ts) all = absurd all
told_of_tasks dag intervals (v ∷ vs) [] all = absurd all
told_of_tasks dag intervals (None ∷ vs) (t ∷ ts) all = absurd all
told_of_tasks dag intervals (Some v ∷ vs) (t ∷ ts) all = (all.0.is_task, told_of_tasks dag intervals vs ts all.1)

-- ---- lines

lines_more : (lines : List (List ℕ)) (line : List ℕ) → text_of_lines (lines ++ line ∷ []) ≡ text_of_lines lines ++ (line ++ 10 ∷ [])
lines_more [] line = append-nil (line ++ 10 ∷ [])
lines_more (l ∷ ls) line = ap (λ t. (l ++ 10 ∷ []) ++ t) (lines_more ls line) ∙ sym (append_assoc (l ++ 10 ∷ []) (text_of_lines ls) (line ++ 10 ∷ []))

-- ---- reading on

-- of these bytes the lines before the rest are read, and tell these tries
pub record HasRead (dag : Dag) (intervals : List Interval) (bytes rest : List ℕ) (tries : List (JobName × Entry)) : Type 0 where
  pub front : List (List ℕ)
  pub are : whole_lines bytes ≡ front ++ whole_lines rest
  pub counted : length bytes ≡ length (text_of_lines front) + length rest
  pub told : TellAll dag intervals (map (value_of_text 127) front) tries

-- nothing is read
pub nothing_read : (dag : Dag) (intervals : List Interval) (bytes : List ℕ) → HasRead dag intervals bytes bytes []
nothing_read dag intervals bytes = record { front = []; are = refl; counted = omega arith; told = tt }

-- one more line is read
pub more_read : (dag : Dag) (intervals : List Interval) (bytes rest line more : List ℕ) (tries : List (JobName × Entry)) (n : JobName) (e : Entry) → HasRead dag intervals bytes rest tries → rest ≡ line ++ 10 ∷ more → whole_lines rest ≡ line ∷ whole_lines more
    → TellsLine dag intervals line n e → HasRead dag intervals bytes more (tries ++ (n, e) ∷ [])
more_read dag intervals bytes rest line more tries n e has is next one =
    let values : map (value_of_text 127) (has.front ++ line ∷ []) ≡ map (value_of_text 127) has.front ++ Some one.1.value ∷ [] =
    map-append (value_of_text 127) has.front (line ∷ []) ∙ ap (λ o. map (value_of_text 127) has.front ++ o ∷ []) one.1.says in
    let long : length rest ≡ length line + length (10 ∷ more) = ap length is ∙ length-append line (10 ∷ more) in
    let front : length (text_of_lines (has.front ++ line ∷ [])) ≡ length (text_of_lines has.front) + length (line ++ 10 ∷ []) =
    ap length (lines_more has.front line) ∙ length-append (text_of_lines has.front) (line ++ 10 ∷ []) in
    record {
      front = has.front ++ line ∷ [];
      are = has.are ∙ ap (λ l. has.front ++ l) next ∙ sym (append_assoc has.front (line ∷ []) (whole_lines more));
      counted = omega (arith, has.counted, long, front, length-append line (10 ∷ []));
      told = subst (λ l. TellAll dag intervals l (tries ++ (n, e) ∷ [])) (sym values) (tell_more dag intervals (map (value_of_text 127) has.front) tries one.1.value n e has.told one.1.tells);
    }

-- all is read
pub all_read : (dag : Dag) (intervals : List Interval) (bytes rest : List ℕ) (tries : List (JobName × Entry)) → HasRead dag intervals bytes rest tries → whole_lines rest ≡ [] → AreRead dag intervals bytes tries (length rest)
all_read dag intervals bytes rest tries has none =
    let lines : whole_lines bytes ≡ has.front = has.are ∙ ap (λ l. has.front ++ l) none ∙ append-nil has.front in
    record {
      told = subst (λ l. TellAll dag intervals (map (value_of_text 127) l) tries) (sym lines) has.told;
      rest = subst (λ l. length bytes ≡ length (text_of_lines l) + length rest) (sym lines) has.counted;
    }

-- a line tells of no try
pub bad_read : (dag : Dag) (intervals : List Interval) (bytes rest line more : List ℕ) (tries : List (JobName × Entry)) → HasRead dag intervals bytes rest tries → whole_lines rest ≡ line ∷ whole_lines more
    → TellsNone dag intervals line → IsFirstBad dag intervals bytes (length tries + 2)
bad_read dag intervals bytes rest line more tries has next none =
    let many = as_many dag intervals (map (value_of_text 127) has.front) tries has.told in
    record {
      before = has.front;
      line = line;
      after = whole_lines more;
      are = has.are ∙ ap (λ l. has.front ++ l) next;
      is_number = omega (arith, many, length-map has.front (value_of_text 127));
      tries = tries;
      told = has.told;
      none = none;
    }
