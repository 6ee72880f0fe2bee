-- A bare record, made of its pieces.
use Rattle.std.proofs.Common.{◌≡◌, ℕ, ℤ, pos, negsuc, true, List, [], ◌∷◌, ◌++◌, None, codes, refl, sym, ap, ◌∙◌, subst, append_assoc, inl, inr, arith}
use Rattle.std.specs.List.{list_all}
use Rattle.std.proofs.lemmas.Bool.{cases_Bool}
use Rattle.std.proofs.lemmas.Bool.Decides.{nat_tests}
use Rattle.std.specs.Fmt.{signed_decimal}
use Rattle.std.specs.Int.{w32, w64}
use Rattle.std.specs.Prelude.{FitsSigned, IsUtf8, slice_get}
use Rattle.std.proofs.lemmas.Int.{fits_signed_from_abs, ints}
use Rattle.json.proofs.Printed.Utf8.{IsUtf8-are_ascii}
use Rattle.json.specs.Print.{escape, quoted}
use Rattle.json.specs.Run.{is_plain}
use Rattle.json.proofs.OnLiterals.{json_on_literals}
use Rattle.json.proofs.Printed.Strings.{escape_byte_plain}
use Rattle.serde_json.specs.Find.{of_integer}
use Rattle.serde_json.specs.Written.{number_text}
use Rattle.bf_value.specs.Json.{json_of, value_of_text}
use Rattle.bf_value.specs.Plain.{IsSound}
use Rattle.bf_value.specs.Views.{list_of, plain_of}
use Rattle.bf_value.specs.declared.name.JobName.{JobName}
use Rattle.bf_value.specs.declared.xval.Xval.{Xval}
use Rattle.bf_value.specs.declared.xval.Xval.TheVariants.{Int, Text}
use Rattle.bf_value.proofs.TextLemmas.{IsUtf8-text_of, value_of_text_text_of}
use Rattle.bf_plan.specs.declared.plan.Dag.{Dag}
use Rattle.bf_interval.specs.declared.interval.Interval.{Interval}
use Rattle.bf_moment.specs.Moment.{moment_text}
use Rattle.bf_xcom.specs.declared.values.Outcome.{Outcome}
use Rattle.bf_xcom.specs.declared.values.Outcome.TheVariants.{Success, Failed, Skipped}
use Rattle.bf_xcom.specs.Pulls.{pushed_by}
use Rattle.bf_journal.specs.inner.Bare.{BeginsRecord, IsStamp}
use Rattle.bf_journal.specs.Records.{optional_value_of, outcome_word, record_value}
use Rattle.bf_journal.specs.Tells.{TellsLine}
use Rattle.bf_journal.proofs.Reading.{id_of, run_of}

-- ---- texts

-- a text is its own JSON but for the marks
pub escape_plain : (text : List ℕ) → list_all is_plain text ≡ true → escape text ≡ text
escape_plain [] all = refl
escape_plain (x ∷ xs) all = elim (cases_Bool (is_plain x)) [
  | inl plain ↦ ap (λ l. l ++ escape xs) (escape_byte_plain x (λ same. grind (nat_tests, arith, plain, same)) (λ same. grind (nat_tests, arith, plain, same)) (grind (nat_tests, arith, plain))) ∙ ap (λ l. x ∷ l) (escape_plain xs (rw plain at all))
  | inr marked ↦ absurd (cc (rw marked at all))
]

-- ---- outcomes

pub success_said : (rest : List ℕ) → codes "\"success\",[],[],[]," ++ rest ≡ quoted (codes "success") ++ (codes ",[],[],[]," ++ rest)
unfolding json_on_literals
success_said rest = refl

pub failed_said : (rest : List ℕ) → codes "\"failed\",[],[],[]," ++ rest ≡ quoted (codes "failed") ++ (codes ",[],[],[]," ++ rest)
unfolding json_on_literals
failed_said rest = refl

pub skipped_said : (rest : List ℕ) → codes "\"skipped\",[],[],[]," ++ rest ≡ quoted (codes "skipped") ++ (codes ",[],[],[]," ++ rest)
unfolding json_on_literals
skipped_said rest = refl

-- ---- numbers

number_said : (z : ℤ) → number_text (of_integer z) ≡ signed_decimal z
number_said (pos n) = refl
number_said (negsuc n) = refl

-- ---- the record

-- a record whose values are none, of this word
abbrev bare_value : List ℕ → List ℕ → JobName → List ℕ → Xval → Xval
bare_value run task n word stamp =
    list_of (Text run ∷ Text task ∷ Int n.index ∷ Int (pos n.attempt) ∷ Text word ∷ list_of [] ∷ list_of [] ∷ list_of [] ∷ stamp ∷ [])

abbrev stamp_of : ℤ → ℤ → ℤ → Xval
stamp_of start end code = list_of (Int start ∷ Int end ∷ Int code ∷ [])

regrouped : (s e c : List ℕ) → (s ++ 44 ∷ (e ++ 44 ∷ c)) ++ 93 ∷ 93 ∷ [] ≡ (s ++ 44 ∷ (e ++ 44 ∷ (c ++ 93 ∷ []))) ++ 93 ∷ []
regrouped s e c = simp append_assoc

stamp_said : (text : List ℕ) (start end code : ℤ) → IsStamp text start end code → text ≡ json_of (stamp_of start end code) ++ 93 ∷ []
stamp_said text start end code stamp =
    stamp.is ∙ ap (λ l. 91 ∷ l) (rw (number_said start, number_said end, number_said code) (regrouped (signed_decimal start) (signed_decimal end) (signed_decimal code)))

record_said : (dag : Dag) (intervals : List Interval) (line rest stamp word : List ℕ) (n : JobName) (value : Xval) → (begun : BeginsRecord dag intervals line n rest)
    → rest ≡ quoted word ++ (codes ",[],[],[]," ++ stamp) → stamp ≡ json_of value ++ 93 ∷ []
    → line ≡ json_of (bare_value begun.run begun.task n word value)
record_said dag intervals line rest stamp word n value begun behind ends =
    begun.is
    ∙ ap (λ l. 91 ∷ (quoted begun.run ++ 44 ∷ (quoted begun.task ++ 44 ∷ (signed_decimal n.index ++ 44 ∷ (signed_decimal (pos n.attempt) ++ 44 ∷ l))))) (behind ∙ ap (λ l. quoted word ++ (codes ",[],[],[]," ++ l)) ends)
    ∙ ap (λ l. 91 ∷ (quoted begun.run ++ 44 ∷ (quoted begun.task ++ 44 ∷ (l ++ 44 ∷ (signed_decimal (pos n.attempt) ++ 44 ∷ (quoted word ++ (codes ",[],[],[]," ++ (json_of value ++ 93 ∷ []))))))))
    (sym (number_said n.index))

word_utf8 : (o : Outcome) → IsUtf8 (outcome_word o)
word_utf8 (Success v) = IsUtf8-are_ascii (codes "success") refl
word_utf8 Failed = IsUtf8-are_ascii (codes "failed") refl
word_utf8 Skipped = IsUtf8-are_ascii (codes "skipped") refl

as_record : (run task : List ℕ) (n : JobName) (o : Outcome) (stamp : Xval) → pushed_by o ≡ None
    → bare_value run task n (outcome_word o) stamp ≡ record_value run task n (record { item = None; pulled = [] }) o stamp
as_record run task n o stamp nothing =
    ap (λ p. list_of (Text run ∷ Text task ∷ Int n.index ∷ Int (pos n.attempt) ∷ Text (outcome_word o) ∷ optional_value_of p ∷ list_of [] ∷ list_of [] ∷ stamp ∷ [])) (sym nothing)

wide : (z : ℤ) → FitsSigned w32 z → FitsSigned w64 z
wide z fits = fits_signed_from_abs w64 z (omega (arith, ints, fits.sfits))

-- the line of a bare record tells of its try
pub bare_tells : (dag : Dag) (intervals : List Interval) (line rest text : List ℕ) (n : JobName) (o : Outcome) (start end code : ℤ)
    → BeginsRecord dag intervals line n rest → pushed_by o ≡ None → rest ≡ quoted (outcome_word o) ++ (codes ",[],[],[]," ++ text) → IsStamp text start end code
    → TellsLine dag intervals line n (record { given = record { item = None; pulled = [] }; outcome = o })
bare_tells dag intervals line rest text n o start end code begun nothing behind stamp =
    let (run, is_run, starts) = run_of (slice_get intervals n.run) begun.run begun.starts in
    let (is_task, id) = id_of dag begun.task n.task begun.is_task in
    let last : Xval = stamp_of start end code in
    let value : Xval = bare_value begun.run begun.task n (outcome_word o) last in
    let is : line ≡ json_of value = record_said dag intervals line rest text (outcome_word o) n last begun behind (stamp_said text start end code stamp) in
    let sound : IsSound (plain_of value) = (
      begun.run_utf8,
      (
        begun.task_utf8,
        (
          wide n.index begun.is_name.0,
          (
            fits_signed_from_abs w64 (pos n.attempt) (omega (arith, begun.is_name.1)),
            (word_utf8 o, (tt, (tt, (tt, ((stamp.start_fits, (stamp.end_fits, (stamp.code_fits, tt))), tt))))),
          ),
        ),
      ),
    ) in (
      subst IsUtf8 (sym is) (IsUtf8-text_of value sound),
      record {
        value = value;
        says = ap (value_of_text 127) is ∙ value_of_text_text_of 127 value sound (omega arith) (omega arith);
        tells = record {
          run = run;
          is_run = is_run;
          is_task = is_task;
          is_name = begun.is_name;
          stamp = last;
          is = as_record begun.run begun.task n o last nothing
              ∙ ap (λ r. record_value r begun.task n (record { item = None; pulled = [] }) o last) starts
              ∙ ap (λ t. record_value (moment_text run.start.nanosecond) t n (record { item = None; pulled = [] }) o last) id;
        };
      },
    )
