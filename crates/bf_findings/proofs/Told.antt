-- What is told of the places of a document.
use Rattle.std.proofs.Common.{◌≡◌, ℕ, ◌+◌, ◌<◌, ◌≤◌, List, [], ◌∷◌, ◌++◌, Bool, true, false, if◌then◌else◌, length, get_or, drop, drop-cons, add-one, map, take, min, All, Option, Some, None, refl, sym, ap, ◌∙◌, subst, ⊎_elim, append_assoc, append-nil, arith}
use Rattle.std.specs.Prelude.{nat_lt}
use Rattle.std.proofs.lemmas.List.{length-append, length-map, length-take, map-append, drop_all}
use Rattle.std.proofs.lemmas.List.Elements.{All-append, All-cons, All-map, All-nil, All-push, All-take, All-weaker}
use Rattle.std.proofs.lemmas.Bool.{cond_both, and_parts, eqb-false, eqb-true, ltb-true, or_cases, or_parts}
use Rattle.serde_json.specs.Data.{Data}
use Rattle.serde_json.specs.View.{view}
use Rattle.serde_json.specs.declared.value.Value.{Value}
use Rattle.bf_read.specs.Reading.{data_in}
use Rattle.bf_findings.specs.declared.place.DocumentPlace.{DocumentPlace}
use Rattle.bf_findings.specs.declared.form.Form.{Form}
use Rattle.bf_findings.specs.declared.finding.Fault.{Fault}
use Rattle.bf_findings.specs.declared.finding.Finding.{Finding}
use Rattle.bf_findings.specs.declared.finding.Finding.TheVariants as finding
use Rattle.bf_findings.specs.Places.{value_in}
use Rattle.bf_findings.specs.Listed.{task_places, tasks}
use Rattle.bf_findings.specs.Judging.{IsWrong}
use Rattle.bf_findings.specs.Faults.{AreFaults, AreFirstWrong, AreWrongOf, IsFault, IsWrongAt, at_none, past_right, past_wrong}
use Rattle.bf_findings.specs.Findings.{AreTold, IsFinding, IsRefusal, IsToldOfFile, findings_of, tells_refusal, with_refusal}
use Rattle.bf_findings.specs.declared.refusal.Refusal.{Refusal}

abbrev pub place_of : Fault → DocumentPlace
place_of fault = fault.place

-- no place has been seen
pub at_first : (file : Option (List ℕ)) (d : Data) → AreFaults file d [] []
at_first file d = record {
  each = All-nil (IsFault file d);
  first = record { seen = []; unseen = []; parts = refl; are_wrong = at_none; few = omega arith; all = λ _. refl };
}

-- all places have been seen, where at most a hundred faults are found
all_seen : (Wrong : DocumentPlace → Type 0) (places told : List DocumentPlace) → length told ≤ 100 → (first : AreFirstWrong Wrong places told) → AreWrongOf Wrong places told
all_seen Wrong places told small first =
    let seen : places ≡ first.seen = first.parts ∙ (ap (λ rest. first.seen ++ rest) (first.all small) ∙ append-nil first.seen) in
    subst (λ (ps : List DocumentPlace). AreWrongOf Wrong ps told) (sym seen) first.are_wrong

-- a place where nothing is wrong
pub one_right : (file : Option (List ℕ)) (d : Data) (places : List DocumentPlace) (found : List Fault) (place : DocumentPlace) → length found ≤ 100 → ¬ (IsWrongAt file d place)
    → AreFaults file d places found → AreFaults file d (places ++ place ∷ []) found
one_right file d places found place small not_wrong are =
    let told = map place_of found in
    let counted : length told ≤ 100 = omega (arith, small, length-map found place_of) in
    record {
      each = are.each;
      first = record {
        seen = places ++ place ∷ [];
        unseen = [];
        parts = sym (append-nil (places ++ place ∷ []));
        are_wrong = past_right places told place (all_seen (IsWrongAt file d) places told counted are.first) not_wrong;
        few = omega (arith, counted);
        all = λ _. refl;
      };
    }

-- a fault
pub one_wrong : (file : Option (List ℕ)) (d : Data) (places : List DocumentPlace) (found now : List Fault) (fault : Fault) (place : DocumentPlace) → length found ≤ 100 → now ≡ found ++ fault ∷ []
    → fault.place ≡ place → IsWrongAt file d place → IsFault file d fault → AreFaults file d places found → AreFaults file d (places ++ place ∷ []) now
one_wrong file d places found now fault place small items at is_wrong is are =
    let told = map place_of found in
    let counted : length told ≤ 100 = omega (arith, small, length-map found place_of) in
    let more : map place_of now ≡ told ++ place ∷ [] = ap (map place_of) items ∙ (map-append place_of found (fault ∷ []) ∙ ap (λ p. told ++ p ∷ []) at) in
    let count : length (told ++ place ∷ []) ≡ length told + 1 = length-append told (place ∷ []) in
    record {
      each = subst (λ (fs : List Fault). All (IsFault file d) fs) (sym items) (All-push (IsFault file d) found fault are.each is);
      first = subst (λ (ps : List DocumentPlace). AreFirstWrong (IsWrongAt file d) (places ++ place ∷ []) ps) (sym more) (record {
        seen = places ++ place ∷ [];
        unseen = [];
        parts = sym (append-nil (places ++ place ∷ []));
        are_wrong = past_wrong places told place (all_seen (IsWrongAt file d) places told counted are.first) is_wrong;
        few = omega (arith, counted, count);
        all = λ _. refl;
      });
    }

-- more places, where more than a hundred faults are found
pub still_first : (file : Option (List ℕ)) (d : Data) (places more : List DocumentPlace) (found : List Fault) → 100 < length found → AreFaults file d places found → AreFaults file d (places ++ more) found
still_first file d places more found many are = record {
  each = are.each;
  first = record {
    seen = are.first.seen;
    unseen = are.first.unseen ++ more;
    parts = ap (λ ps. ps ++ more) are.first.parts ∙ append_assoc are.first.seen are.first.unseen more;
    are_wrong = are.first.are_wrong;
    few = are.first.few;
    all = λ few. absurd (omega (arith, many, few, length-map found place_of));
  };
}

-- the faults are as many as the places that are told
pub counted : (file : Option (List ℕ)) (d : Data) (places : List DocumentPlace) (found : List Fault) → AreFaults file d places found → length found ≤ 101
counted file d places found are = omega (arith, are.first.few, length-map found place_of)

abbrev pub Reached : Option (List ℕ) → Data → List DocumentPlace → List DocumentPlace → List Fault → Type 0
Reached file d all rest found = (seen : List DocumentPlace) × (all ≡ seen ++ rest) × AreFaults file d seen found

-- the next place, where nothing is wrong
pub next_right : (file : Option (List ℕ)) (d : Data) (all rest left : List DocumentPlace) (found : List Fault) (place : DocumentPlace) → length found ≤ 100 → rest ≡ place ∷ left → ¬ (IsWrongAt file d place)
    → Reached file d all rest found → Reached file d all left found
next_right file d all rest left found place small step not_wrong (seen, parts, are) = (
  seen ++ place ∷ [],
  parts ∙ (ap (λ ps. seen ++ ps) step ∙ sym (append_assoc seen (place ∷ []) left)),
  one_right file d seen found place small not_wrong are,
)

-- a fault is where something is wrong
wrong_at : (file : Option (List ℕ)) (d : Data) (fault : Fault) (place : DocumentPlace) → fault.place ≡ place → IsFault file d fault → IsWrongAt file d place
wrong_at file d fault place at is =
    subst (λ (p : DocumentPlace). IsWrongAt file d p) at (subst (λ (form : Form). IsWrong file d fault.place form (value_in d fault.place)) is.form_is is.wrong)

-- the next place, where something is
pub next_wrong : (file : Option (List ℕ)) (d : Data) (all rest left : List DocumentPlace) (found now : List Fault) (fault : Fault) (place : DocumentPlace) → length found ≤ 100 → rest ≡ place ∷ left
    → now ≡ found ++ fault ∷ [] → fault.place ≡ place → IsFault file d fault → Reached file d all rest found → Reached file d all left now
next_wrong file d all rest left found now fault place small step items at is (seen, parts, are) = (
  seen ++ place ∷ [],
  parts ∙ (ap (λ ps. seen ++ ps) step ∙ sym (append_assoc seen (place ∷ []) left)),
  one_wrong file d seen found now fault place small items at (wrong_at file d fault place at is) is are,
)

-- no more are sought
pub stopped : (file : Option (List ℕ)) (d : Data) (all rest : List DocumentPlace) (found : List Fault) → 100 < length found → Reached file d all rest found → AreFaults file d all found
stopped file d all rest found many (seen, parts, are) = subst (λ (ps : List DocumentPlace). AreFaults file d ps found) (sym parts) (still_first file d seen rest found many are)

-- none is left
pub finished : (file : Option (List ℕ)) (d : Data) (all rest : List DocumentPlace) (found : List Fault) → length rest ≡ 0 → Reached file d all rest found → AreFaults file d all found
finished file d all [] found none_left (seen, parts, are) = subst (λ (ps : List DocumentPlace). AreFaults file d ps found) (sym (parts ∙ append-nil seen)) are
finished file d all (place ∷ rest) found none_left reached = absurd (omega (arith, none_left))

-- nothing of what is sought has been looked at
pub begun : (file : Option (List ℕ)) (d : Data) (before all : List DocumentPlace) (found : List Fault) → AreFaults file d before found → Reached file d (before ++ all) all found
begun file d before all found are = (before, refl, are)

-- one more task
pub next_task : (file : Option (List ℕ)) (d : Data) (all : List DocumentPlace) (items : List Value) (n : ℕ) (task : Value) (found now : List Fault) → n < length items
    → ((before : List DocumentPlace) → AreFaults file d before found → AreFaults file d (before ++ task_places n (view (get_or items n task))) now)
    → Reached file d all (tasks n (map view (drop n items))) found → Reached file d all (tasks (n + 1) (map view (drop (n + 1) items))) now
next_task file d all items n task found now small adds (seen, parts, are) =
    let next : drop n items ≡ get_or items n task ∷ drop (n + 1) items = rw add-one (drop-cons items n task small) in
    let step : tasks n (map view (drop n items)) ≡ task_places n (view (get_or items n task)) ++ tasks (n + 1) (map view (drop (n + 1) items)) = ap (λ vs. tasks n (map view vs)) next in (
      seen ++ task_places n (view (get_or items n task)),
      parts ∙ (ap (λ ps. seen ++ ps) step ∙ sym (append_assoc seen (task_places n (view (get_or items n task))) (tasks (n + 1) (map view (drop (n + 1) items))))),
      adds seen are,
    )

-- no task is left
pub no_task_left : (items : List Value) (n : ℕ) → length items ≤ n → length (tasks n (map view (drop n items))) ≡ 0
no_task_left items n past = ap (λ vs. length (tasks n (map view vs))) (drop_all n items past)

-- ---- the findings of a file

-- each is so
pub each_told : (graph : List ℕ) (file : Option (List ℕ)) (d : Data) (faults : List Fault) (found : List Finding) → data_in graph ≡ Some d → All (IsFault file d) faults → found ≡ findings_of faults → All (IsFinding graph file) found
each_told graph file d faults found says each e =
    let P : List Finding → Type 0 = λ fs. All (IsFinding graph file) fs in
    let first = All-map (IsFinding graph file) finding.Fault (take 100 faults) (All-weaker (IsFault file d) (λ f. IsFinding graph file (finding.Fault f)) (λ f is. (d, says, is)) (take 100 faults) (All-take (IsFault file d) 100 faults each)) in
    let more : All (IsFinding graph file) (if nat_lt 100 (length faults) then finding.More ∷ [] else []) = cond_both (nat_lt 100 (length faults)) (finding.More ∷ []) [] P (λ _. All-cons (IsFinding graph file) finding.More [] tt (All-nil (IsFinding graph file))) (λ _. All-nil (IsFinding graph file)) in
    subst P (sym e) (All-append (IsFinding graph file) (map finding.Fault (take 100 faults)) (if nat_lt 100 (length faults) then finding.More ∷ [] else []) first more)

-- they are few
pub few_told : (faults : List Fault) (found : List Finding) → found ≡ findings_of faults → length found ≤ 101
few_told faults found e =
    let first : length (map finding.Fault (take 100 faults)) ≤ 100 = omega (arith, length-map (take 100 faults) finding.Fault, length-take 100 faults, min_small 100 (length faults)) in
    let more : length (if nat_lt 100 (length faults) then finding.More ∷ [] else []) ≤ 1 = cond_both (nat_lt 100 (length faults)) (finding.More ∷ []) [] (λ (fs : List Finding). length fs ≤ 1) (λ _. omega arith) (λ _. omega arith) in
    omega (arith, ap length e, length-append (map finding.Fault (take 100 faults)) (if nat_lt 100 (length faults) then finding.More ∷ [] else []), first, more)
  where
    min_small : (a b : ℕ) → min a b ≤ a
    min_small a b = grind arith

-- what is told of a file that is refused
pub are_told : (graph : List ℕ) (file : Option (List ℕ)) (refusal : Refusal) (front found : List Finding) → IsRefusal graph file refusal → IsToldOfFile graph file front → All (IsFinding graph file) front → length front ≤ 101
    → found ≡ with_refusal refusal front → AreTold graph file found
are_told graph file refusal front found refused is_front each few e = record {
  refusal = refusal;
  refused = refused;
  front = front;
  is_front = is_front;
  found_is = e;
  some = subst (λ (fs : List Finding). 0 < length fs) (sym e) (by_some (tells_refusal refusal front) refl);
  few = subst (λ (fs : List Finding). length fs ≤ 101) (sym e) (by_few (tells_refusal refusal front) refl);
  each = subst (λ (fs : List Finding). All (IsFinding graph file) fs) (sym e) (All-append (IsFinding graph file) front (if tells_refusal refusal front then finding.Refused refusal ∷ [] else []) each (by_each (tells_refusal refusal front)));
}
  where
    last : Bool → List Finding
    last tells = if tells then finding.Refused refusal ∷ [] else []

    by_some : (tells : Bool) → tells_refusal refusal front ≡ tells → 0 < length (front ++ last tells)
    by_some true t = omega (arith, length-append front (last true))
    by_some false t =
        let filled = eqb-false (length front) 0 (or_parts _ _ t).0 in
        omega (arith, length-append front (last false), filled)

    by_few : (tells : Bool) → tells_refusal refusal front ≡ tells → length (front ++ last tells) ≤ 101
    by_few true t = ⊎_elim
        (λ empty. let none = eqb-true (length front) 0 empty in omega (arith, length-append front (last true), none))
        (λ limit. let small = ltb-true (length front) 100 (and_parts _ _ limit).0 in omega (arith, length-append front (last true), small))
        (or_cases _ _ t)
    by_few false t = omega (arith, length-append front (last false), few)

    by_each : (tells : Bool) → All (IsFinding graph file) (last tells)
    by_each true = All-cons (IsFinding graph file) (finding.Refused refusal) [] refused (All-nil (IsFinding graph file))
    by_each false = All-nil (IsFinding graph file)
