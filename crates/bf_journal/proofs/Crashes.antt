-- Journals that are cut short, and gone on with.
use Rattle.std.proofs.Common.{◌≡◌, ◌∙◌, ◌+◌, ℕ, Bool, true, false, if◌then◌else◌, nat_lt, List, [], ◌∷◌, ◌++◌, Option, Some, None, map, length, take, drop, refl, subst, sym, ap, append_assoc, inl, inr, arith}
use Rattle.std.specs.Prelude.{All}
use Rattle.std.specs.Option.{option_or}
use Rattle.std.specs.Ordering.{eq_by_cmp}
use Rattle.std.proofs.lemmas.Bool.{cases_Bool}
use Rattle.std.proofs.lemmas.Bool.Decides.{nat_tests}
use Rattle.std.proofs.lemmas.List.{length-take, take_all, take-take}
use Rattle.std.proofs.lemmas.List.Elements.{All-nil, All-cons, All-head, All-tail, All-take, All-append}
use Rattle.bf_value.specs.declared.name.JobName.{JobName}
use Rattle.bf_value.specs.declared.xval.Xval.{Xval}
use Rattle.bf_value.specs.Json.{json_of}
use Rattle.bf_value.specs.Names.{name_cmp}
use Rattle.bf_plan.specs.declared.plan.Dag.{Dag}
use Rattle.bf_plan.proofs.ListLemmas.{some_same}
use Rattle.bf_interval.specs.declared.interval.Interval.{Interval}
use Rattle.bf_xcom.specs.declared.values.Given.{Given}
use Rattle.bf_try.specs.declared.answers.Raw.{Raw}
use Rattle.bf_try.specs.declared.ledger.Entry.{Entry}
use Rattle.bf_try.specs.Grades.{fits_in, grade_of}
use Rattle.bf_try.proofs.Maps.{same_name}
use Rattle.bf_journal.specs.Lines.{text_of_lines, whole_lines}
use Rattle.bf_journal.specs.Records.{IsTellable, record_at, stamp_value}
use Rattle.bf_journal.specs.Recording.{IsRecordBy, IsWritten, text_of_all}
use Rattle.bf_journal.specs.Tells.{Tells, TellAll, records_in}
use Rattle.bf_journal.specs.Found.{entry_for, last_for}
use Rattle.bf_journal.specs.Cuts.{AreAllTold, IsCutJournal, IsGradedRecord, IsGradedTry, KeepsGraded, text_of_records}
use Rattle.bf_journal.proofs.Going.{take_past}
use Rattle.bf_journal.proofs.Cutting.{IsCutOf, cut, front_lines}
use Rattle.bf_journal.proofs.Telling.{AreTold, one_entry, one_name}
use Rattle.bf_journal.proofs.Wholes.{all_in_line, take_map, whole_ones}

module _ (may_answer : JobName → Given → Raw → Type 0) (dag : Dag) (intervals : List Interval) where
  -- ---- what is kept is graded

  same_try : AreTold dag intervals → (n : JobName) (e : Entry) (value : Xval) → Tells dag intervals value n e → IsGradedRecord may_answer dag intervals value → IsGradedTry may_answer dag (n, e)
  same_try told n e value tells is =
      let name : is.name ≡ n = one_name dag intervals value is.name n is.entry e told is.tells tells in
      let entry : is.entry ≡ e = one_entry dag intervals value is.name n is.entry e is.tells tells in
      subst (λ (m : JobName). IsGradedTry may_answer dag (m, e)) name (subst (λ (x : Entry). IsGradedTry may_answer dag (is.name, x)) entry is.graded)

  all_graded : AreTold dag intervals → (values : List Xval) (tries : List (JobName × Entry)) → All (IsGradedRecord may_answer dag intervals) values → TellAll dag intervals (map Some values) tries → All (IsGradedTry may_answer dag) tries
  all_graded told [] [] all tell = All-nil (IsGradedTry may_answer dag)
  all_graded told [] (try ∷ tries) all tell = absurd tell
  all_graded told (v ∷ vs) [] all tell = absurd tell
  all_graded told (v ∷ vs) (try ∷ tries) all tell =
      All-cons (IsGradedTry may_answer dag) try tries (same_try told try.0 try.1 v tell.0 (All-head (IsGradedRecord may_answer dag intervals) v vs all))
      (all_graded told vs tries (All-tail (IsGradedRecord may_answer dag intervals) v vs all) tell.1)

  -- the entry for a name is that of its try
  graded_for : (try : JobName × Entry) (n : JobName) (e : Entry) → entry_for dag try n ≡ Some e → IsGradedTry may_answer dag try → IsGradedTry may_answer dag (n, e)
  graded_for try n e is graded = go (fits_in dag try.0.task try.1.outcome) (eq_by_cmp name_cmp n try.0) refl is
    where
      go : (f b : Bool) → eq_by_cmp name_cmp n try.0 ≡ b → (if f then (if b then Some try.1 else None) else None) ≡ Some e → IsGradedTry may_answer dag (n, e)
      go true true same is =
          subst (λ (m : JobName). IsGradedTry may_answer dag (m, e)) (sym (same_name n try.0 same)) (subst (λ (x : Entry). IsGradedTry may_answer dag (try.0, x)) (some_same is) graded)
      go true false other is = absurd (cc)
      go false b same is = absurd (cc)

  last_graded : (tries : List (JobName × Entry)) → All (IsGradedTry may_answer dag) tries → (n : JobName) (e : Entry) → last_for dag tries n ≡ Some e → IsGradedTry may_answer dag (n, e)
  last_graded [] all n e is = absurd (cc)
  last_graded (try ∷ tries) all n e is =
      go (last_for dag tries n) refl (λ before. last_graded tries (All-tail (IsGradedTry may_answer dag) try tries all) n e before) is
    where
      go : (o : Option Entry) → last_for dag tries n ≡ o → (last_for dag tries n ≡ Some e → IsGradedTry may_answer dag (n, e)) → option_or o (entry_for dag try n) ≡ Some e → IsGradedTry may_answer dag (n, e)
      go None none rest is = graded_for try n e is (All-head (IsGradedTry may_answer dag) try tries all)
      go (Some x) some rest is = rest (some ∙ is)

  pub keeps_graded : AreTold dag intervals → (bytes : List ℕ) → IsCutJournal may_answer dag intervals bytes → KeepsGraded may_answer dag intervals bytes
  keeps_graded told bytes journal tries tell n e there =
      let whole = whole_ones journal.records journal.tellable journal.cut in
      let read : records_in bytes ≡ map Some (take whole.count journal.records) = ap records_in journal.is ∙ whole.read in
      let told_all : TellAll dag intervals (map Some (take whole.count journal.records)) tries = subst (λ l. TellAll dag intervals l tries) read tell in
      last_graded tries (all_graded told (take whole.count journal.records) tries (All-take (IsGradedRecord may_answer dag intervals) whole.count journal.records journal.graded) told_all) n e there

  -- ---- all lines are read

  tries_of : (values : List Xval) → All (IsGradedRecord may_answer dag intervals) values → (tries : List (JobName × Entry)) × TellAll dag intervals (map Some values) tries
  tries_of [] all = ([], tt)
  tries_of (v ∷ vs) all =
      let first = All-head (IsGradedRecord may_answer dag intervals) v vs all in
      let (tries, tell) = tries_of vs (All-tail (IsGradedRecord may_answer dag intervals) v vs all) in
      ((first.name, first.entry) ∷ tries, (first.tells, tell))

  pub all_told : (bytes : List ℕ) → IsCutJournal may_answer dag intervals bytes → AreAllTold dag intervals bytes
  all_told bytes journal =
      let whole = whole_ones journal.records journal.tellable journal.cut in
      let read : records_in bytes ≡ map Some (take whole.count journal.records) = ap records_in journal.is ∙ whole.read in
      let (tries, tell) = tries_of (take whole.count journal.records) (All-take (IsGradedRecord may_answer dag intervals) whole.count journal.records journal.graded) in
      record { tries = tries; told = subst (λ l. TellAll dag intervals l tries) (sym read) tell }

  -- ---- cut short

  pub begun : IsCutJournal may_answer dag intervals []
  begun = record { records = []; tellable = All-nil IsTellable; graded = All-nil (IsGradedRecord may_answer dag intervals); cut = 0; is = refl }

  cut_twice : (n m : ℕ) (text : List ℕ) → (k : ℕ) × (take n (take m text) ≡ take k text)
  cut_twice n m text = elim (cases_Bool (nat_lt m n)) as (λ _. (k : ℕ) × (take n (take m text) ≡ take k text)) [
    | inl less ↦ (m, take_all n (take m text) (grind (arith, nat_tests, less, length-take m text)))
    | inr not_less ↦ (n, take-take n m text (grind (arith, nat_tests, not_less)))
  ]

  pub cut_again : (bytes : List ℕ) (n : ℕ) → IsCutJournal may_answer dag intervals bytes → IsCutJournal may_answer dag intervals (take n bytes)
  cut_again bytes n journal =
      let (cut, is) = cut_twice n journal.cut (text_of_records journal.records) in
      record { records = journal.records; tellable = journal.tellable; graded = journal.graded; cut = cut; is = ap (take n) journal.is ∙ is }

  -- ---- gone on with

  -- what the lines of records are made of
  record AreLines (lines : List (List ℕ)) : Type 0 where
    values : List Xval
    tellable : All IsTellable values
    graded : All (IsGradedRecord may_answer dag intervals) values
    same : text_of_all lines ≡ text_of_records values

  -- the line is the text of a graded record
  graded_line : (line : List ℕ) → IsRecordBy may_answer dag intervals line → (value : Xval) × IsTellable value × IsGradedRecord may_answer dag intervals value × (line ≡ json_of value ++ 10 ∷ [])
  graded_line line is =
      let outcome = grade_of dag is.done.name.task is.done.raw in
      let entry : Entry = record { given = is.done.given; outcome = outcome } in
      let value = record_at dag is.is.run is.done outcome is.stamp in
      let tells : Tells dag intervals value is.done.name entry =
      record { run = is.is.run; is_run = is.is.is_run; is_task = is.is.is_task; is_name = is.is.is_name; stamp = stamp_value is.stamp is.done.raw.exit; is = refl } in
      (value, is.is.told.tellable, record { name = is.done.name; entry = entry; tells = tells; graded = (is.done.raw, is.may, refl) }, is.is.told.is)

  are_lines : (lines : List (List ℕ)) → All (IsRecordBy may_answer dag intervals) lines → AreLines lines
  are_lines [] all = record { values = []; tellable = All-nil IsTellable; graded = All-nil (IsGradedRecord may_answer dag intervals); same = refl }
  are_lines (line ∷ lines) all =
      let (value, tellable, graded, is) = graded_line line (All-head (IsRecordBy may_answer dag intervals) line lines all) in
      let rest = are_lines lines (All-tail (IsRecordBy may_answer dag intervals) line lines all) in
      record {
        values = value ∷ rest.values;
        tellable = All-cons IsTellable value rest.values tellable rest.tellable;
        graded = All-cons (IsGradedRecord may_answer dag intervals) value rest.values graded rest.graded;
        same = ap (λ l. l ++ text_of_all lines) is ∙ ap (λ l. (json_of value ++ 10 ∷ []) ++ l) rest.same;
      }

  texts_behind : (xs ys : List Xval) → text_of_records (xs ++ ys) ≡ text_of_records xs ++ text_of_records ys
  texts_behind [] ys = refl
  texts_behind (x ∷ xs) ys = ap (λ l. (json_of x ++ 10 ∷ []) ++ l) (texts_behind xs ys) ∙ sym (append_assoc (json_of x ++ 10 ∷ []) (text_of_records xs) (text_of_records ys))

  -- the whole lines at the front of a journal are the text of its first records
  whole_text : (bytes : List ℕ) (journal : IsCutJournal may_answer dag intervals bytes) → (count : ℕ) × (text_of_lines (whole_lines bytes) ≡ text_of_records (take count journal.records))
  whole_text bytes journal =
      let lines = map json_of journal.records in
      let found : IsCutOf lines journal.cut (whole_lines (take journal.cut (text_of_lines lines))) = cut lines (all_in_line journal.records) journal.cut in
      (found.count, ap text_of_lines (ap whole_lines journal.is ∙ found.are ∙ take_map found.count journal.records))

  -- behind the same front the rests are the same
  behind : (head a b : List ℕ) → head ++ a ≡ head ++ b → a ≡ b
  behind [] a b same = same
  behind (h ∷ hs) a b same = behind hs a b (ap tail_of same)
    where
      tail_of : List ℕ → List ℕ
      tail_of xs = drop 1 xs

  pub gone_on : (head bytes written : List ℕ) (failed : Bool) → IsCutJournal may_answer dag intervals bytes
      → IsWritten (IsRecordBy may_answer dag intervals) (Some (take (length head + length (text_of_lines (whole_lines bytes))) (head ++ bytes))) (Some (head ++ written)) failed
      → IsCutJournal may_answer dag intervals written
  gone_on head bytes written failed journal is =
      let (count, whole) = whole_text bytes journal in
      let front = take count journal.records in
      let more = are_lines is.records is.may_be in
      let base : take (length head + length (text_of_lines (whole_lines bytes))) (head ++ bytes) ≡ head ++ text_of_records front =
      take_past head bytes (length (text_of_lines (whole_lines bytes))) ∙ ap (λ l. head ++ l) (front_lines bytes ∙ whole) in
      let lines = take is.count (text_of_all is.records) in
      let all : head ++ written ≡ (head ++ text_of_records front) ++ lines = some_same is.first ∙ ap (λ l. l ++ lines) base in
      let rest : written ≡ text_of_records front ++ lines = behind head written (text_of_records front ++ lines) (all ∙ append_assoc head (text_of_records front) lines) in
      record {
        records = front ++ more.values;
        tellable = All-append IsTellable front more.values (All-take IsTellable count journal.records journal.tellable) more.tellable;
        graded = All-append (IsGradedRecord may_answer dag intervals) front more.values (All-take (IsGradedRecord may_answer dag intervals) count journal.records journal.graded) more.graded;
        cut = length (text_of_records front) + is.count;
        is = rest ∙ ap (λ l. text_of_records front ++ take is.count l) more.same
            ∙ sym (take_past (text_of_records front) (text_of_records more.values) is.count)
            ∙ ap (take (length (text_of_records front) + is.count)) (sym (texts_behind front more.values));
      }
