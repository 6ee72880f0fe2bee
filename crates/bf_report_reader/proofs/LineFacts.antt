-- Lines, and how many there are.
use Rattle.std.proofs.Common.{◌≡◌, ◌≤◌, ◌<◌, ◌+◌, ◌==◌, ℕ, List, [], ◌∷◌, ◌++◌, cond, true≢false, Option, Some, None, length, inl, inr, refl, sym, ap, ◌∙◌, subst, append_assoc, append-nil, arith}
use Rattle.std.specs.Prelude.{IfSome}
use Rattle.std.specs.Io.KnownBytes.{prepend_known, Consumes, IsAtEnd}
use Rattle.std.proofs.lemmas.Bool.{cases_Bool}
use Rattle.std.proofs.lemmas.List.Sums.{sum_by-append, sum_by-cons}
use Rattle.bf_report_reader.specs.declared.fault.ReportFault.{ReportFault}
use Rattle.bf_report.specs.declared.report.Version.{Version}
use Rattle.bf_report.specs.declared.report.Report.{Report}
use Rattle.bf_report.specs.Report.{report_text}
use Rattle.bf_report_reader.specs.Rules.{IsShownReport}
use Rattle.bf_report_reader.proofs.HeldFacts.{nothing_first, consumes_more}
use Rattle.bf_report_reader.specs.Faults.{IsInLine, longest_line, lines_in, IsOpening, Tells}
use Rattle.bf_report_reader.specs.inner.Faults.{StopsAt}
use Rattle.bf_report_reader.specs.declared.beginning.ReportSoFar.{ReportSoFar}
use Rattle.bf_report_reader.specs.inner.Beginning.{opening_text, so_far}
use Rattle.bf_report_reader.specs.inner.Rules.{KeepsRules}
use Rattle.bf_report_reader.specs.inner.Steps.{ReadsOn, MayStand}
use Rattle.bf_report_reader.specs.inner.Extensions.{SaysHead, IsKnown}
use Rattle.bf_report_reader.proofs.Paths.{head_of}
use Rattle.bf_report_reader.proofs.Chains.{Goes, IsNextOf, known_goes, no_such_line, no_long_line}
use Rattle.bf_report_reader.proofs.Reports.{head_goes, opens, opens_nothing}

-- text within a line ends none
no_lines : (text : List ℕ) → IsInLine text → lines_in text ≡ 0
no_lines [] e = refl
no_lines (x ∷ xs) e = elim (cases_Bool (x == 10)) as (λ _. lines_in (x ∷ xs) ≡ 0) [
  | inl is ↦ absurd (true≢false (rw is at e))
  | inr not_is ↦
      let f : ℕ → ℕ = λ b. cond (b == 10) 1 0 in
      let none : f x ≡ 0 = rw not_is refl in
      omega (arith, sum_by-cons f x xs, none, no_lines xs (rw not_is at e))
]

pub one_line_more : (before text : List ℕ) → IsInLine text → lines_in (before ++ (text ++ 10 ∷ [])) ≡ lines_in before + 1
one_line_more before text e =
    let f : ℕ → ℕ = λ b. cond (b == 10) 1 0 in
    let first = sum_by-append f before (text ++ 10 ∷ []) in
    let second = sum_by-append f text (10 ∷ []) in
    omega (arith, first, second, no_lines text e)

pub ends_as : (a b : Option (List ℕ)) (text : List ℕ) → Consumes a b text → IsAtEnd b → IfSome a (λ bytes. bytes ≡ text)
ends_as None b text c end = tt
ends_as (Some xs) None text c end = absurd c
ends_as (Some xs) (Some ys) text c end = c ∙ ap (λ l. text ++ l) end ∙ append-nil text

-- what is told of the bytes to come is told of all
pub tells_on : (a b : Option (List ℕ)) (before after : List ℕ) (fault : ReportFault) → ReadsOn a b before after → IfSome b (λ bytes. Tells (after ++ bytes) fault) → IfSome a (λ bytes. Tells (before ++ bytes) fault)
tells_on None b before after fault on told = tt
tells_on (Some xs) None before after fault (text, came, is) told = absurd came
tells_on (Some xs) (Some ys) before after fault (text, came, is) told =
    let same : after ++ ys ≡ before ++ xs = ap (λ l. l ++ ys) is ∙ append_assoc before text ys ∙ ap (λ l. before ++ l) (sym came) in
    let P : List ℕ → Type 0 = λ l. Tells l fault in
    subst P same told

pub stops_tell : (opening : List ℕ) (Stands : Report → List ℕ → Type 0) (number : ℕ) (fault : ReportFault) (bytes : List ℕ) → IsOpening opening → Goes opening Stands → number ≡ lines_in opening + 1 → StopsAt fault number bytes
    → Tells (opening ++ bytes) fault
stops_tell opening Stands number (ReportFault.BadLine n) bytes opens goes place stops = absurd stops
stops_tell opening Stands number (ReportFault.TooLong n) bytes opens goes place (same, (piece, rest, is, in_line, long)) = record {
  opening = opening;
  piece = piece;
  rest = rest;
  opens = opens;
  bytes_are = ap (λ l. opening ++ l) is;
  in_line = in_line;
  long = long;
  bad = no_long_line opening piece Stands goes in_line long;
  place = same ∙ place;
}
stops_tell opening Stands number ReportFault.Truncated bytes opens goes place stops =
    record { opening = opening; piece = bytes; opens = opens; bytes_are = refl; in_line = stops.0; short = stops.1 }
stops_tell opening Stands number ReportFault.Io bytes opens goes place stops = tt
stops_tell opening Stands number ReportFault.OutOfMemory bytes opens goes place stops = tt

-- the first line did not come
pub first_stops : (left : Option (List ℕ)) (bytes : List ℕ) (number : ℕ) (fault : ReportFault) → bytes ≡ [] → number ≡ 0 → IfSome (prepend_known bytes left) (StopsAt fault (number + 1)) → IfSome left (λ told. Tells told fault)
first_stops left bytes number fault none first stops =
    let P : Option (List ℕ) → Type 0 = λ o. IfSome o (StopsAt fault (number + 1)) in
    go left (subst P (ap (λ l. prepend_known l left) none ∙ nothing_first left) stops)
  where
    go : (o : Option (List ℕ)) → IfSome o (StopsAt fault (number + 1)) → IfSome o (λ told. Tells told fault)
    go None stops = tt
    go (Some told) stops = stops_tell [] (λ r text. SaysHead text (head_of r)) (number + 1) fault told opens_nothing head_goes (ap (λ n. n + 1) first) stops

-- a line did not come behind what was read
pub read_stops : (a b : Option (List ℕ)) (before : List ℕ) (read : ReportSoFar) (number : ℕ) (fault : ReportFault) → ReadsOn a b before (opening_text (so_far read)) → KeepsRules read → IsKnown read → number ≡ lines_in (opening_text (so_far read))
    → IfSome b (StopsAt fault (number + 1)) → IfSome a (λ bytes. Tells (before ++ bytes) fault)
read_stops a b before read number fault on keeps known place stops = tells_on a b before after fault on (go b stops)
  where
    after : List ℕ
    after = opening_text (so_far read)

    go : (o : Option (List ℕ)) → IfSome o (StopsAt fault (number + 1)) → IfSome o (λ bytes. Tells (opening_text (so_far read) ++ bytes) fault)
    go None stops = tt
    go (Some bytes) stops = stops_tell (opening_text (so_far read)) (IsNextOf read) (number + 1) fault bytes (opens read keeps known) (known_goes read keeps known) (ap (λ n. n + 1) place) stops

-- a line came that may not stand there
line_told : (opening text : List ℕ) (Stands : Report → List ℕ → Type 0) (number : ℕ) (b c : Option (List ℕ)) → IsOpening opening → Goes opening Stands → ((report : Report) → Stands report text → ⊥) → number ≡ lines_in opening + 1
    → Consumes b c (text ++ 10 ∷ []) → IsInLine text → length text ≤ longest_line text → IfSome b (λ bytes. Tells (opening ++ bytes) (ReportFault.BadLine number))
line_told opening text Stands number None c opens goes none place came in_line short = tt
line_told opening text Stands number (Some xs) None opens goes none place came in_line short = absurd came
line_told opening text Stands number (Some xs) (Some ys) opens goes none place came in_line short = inl (record {
  opening = opening;
  text = text;
  rest = ys;
  opens = opens;
  bytes_are = ap (λ l. opening ++ l) came;
  in_line = in_line;
  short = short;
  bad = no_such_line opening text Stands goes none in_line;
  place = place;
})

-- as the first line
pub first_told : (left b : Option (List ℕ)) (bytes text : List ℕ) → bytes ≡ [] → Consumes (prepend_known bytes left) b (text ++ 10 ∷ []) → IsInLine text → length text ≤ longest_line text → ((head : Version × List ℕ) → SaysHead text head → ⊥)
    → IfSome left (λ bytes. Tells bytes (ReportFault.BadLine 1))
first_told left b bytes text none came in_line short other =
    let P : Option (List ℕ) → Type 0 = λ o. Consumes o b (text ++ 10 ∷ []) in
    line_told [] text (λ r line. SaysHead line (head_of r)) 1 left b opens_nothing head_goes (λ report. other (head_of report)) refl (subst P (ap (λ l. prepend_known l left) none ∙ nothing_first left) came) in_line short

-- behind what was read
pub line_tells : (a b c : Option (List ℕ)) (before text : List ℕ) (read : ReportSoFar) (number : ℕ) → ReadsOn a b before (opening_text (so_far read)) → KeepsRules read → IsKnown read → (MayStand read text → ⊥) → number ≡ lines_in (opening_text (so_far read)) + 1
    → Consumes b c (text ++ 10 ∷ []) → IsInLine text → length text ≤ longest_line text → IfSome a (λ bytes. Tells (before ++ bytes) (ReportFault.BadLine number))
line_tells a b c before text read number on keeps known none place came in_line short =
    tells_on a b before (opening_text (so_far read)) (ReportFault.BadLine number) on
    (line_told (opening_text (so_far read)) text (IsNextOf read) number b c (opens read keeps known) (known_goes read keeps known) (λ report stands. none stands.stands) place came in_line short)

-- bytes came behind a report
pub more_tells : (a b left : Option (List ℕ)) (before held : List ℕ) (report : Report) (number : ℕ) → IsShownReport report → ReadsOn a b before (report_text report) → number ≡ lines_in (report_text report) + 1 → Consumes b (prepend_known held left) []
    → 0 < length held → IfSome a (λ bytes. Tells (before ++ bytes) (ReportFault.BadLine number))
more_tells a b left before [] report number shown on place came some = absurd (omega (arith, some))
more_tells a b left before (x ∷ xs) report number shown on place came some = tells_on a b before (report_text report) (ReportFault.BadLine number) on (go b left came)
  where
    go : (o p : Option (List ℕ)) → Consumes o (prepend_known (x ∷ xs) p) [] → IfSome o (λ bytes. Tells (report_text report ++ bytes) (ReportFault.BadLine number))
    go None p came = tt
    go (Some ys) None came = absurd came
    go (Some ys) (Some zs) came = inr (record { report = report; first = x; rest = xs ++ zs; shown = shown; bytes_are = ap (λ l. report_text report ++ l) came; place = place })

-- the first line is read behind nothing
pub first_read : (left b : Option (List ℕ)) (bytes text after : List ℕ) → bytes ≡ [] → Consumes (prepend_known bytes left) b text → after ≡ text → ReadsOn left b [] after
first_read left b bytes text after none came is =
    let P : Option (List ℕ) → Type 0 = λ o. Consumes o b text in
    (text, subst P (ap (λ l. prepend_known l left) none ∙ nothing_first left) came, is)

pub reads_twice : (a b c : Option (List ℕ)) (x y z : List ℕ) → ReadsOn a b x y → ReadsOn b c y z → ReadsOn a c x z
reads_twice a b c x y z (s, came, is) (t, next, then) = (s ++ t, consumes_more a b c s t came next, then ∙ ap (λ l. l ++ t) is ∙ append_assoc x s t)

-- the bytes end behind a report
pub ends_there : (a b : Option (List ℕ)) (text : List ℕ) → ReadsOn a b [] text → IsAtEnd b → IfSome a (λ bytes. bytes ≡ text)
ends_there a b text (read, came, is) ends =
    let P : List ℕ → Type 0 = λ t. IfSome a (λ bytes. bytes ≡ t) in
    subst P (sym is) (ends_as a b read came ends)
