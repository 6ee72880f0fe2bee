-- Reports go on line by line.
use Rattle.std.proofs.Common.{◌≡◌, ◌≤◌, ◌<◌, ℕ, zero, suc, ◌+◌, List, [], ◌∷◌, ◌++◌, length, take, true, codes, decimal, refl, sym, ap, ◌∙◌, subst, arith, append_assoc, append-nil, inl, inr}
use Rattle.std.proofs.lemmas.List.{append_cancel_left}
use Rattle.bf_report.specs.declared.report.Report.{Report}
use Rattle.bf_report.specs.Report.{line, report_text}
use Rattle.bf_report_reader.specs.declared.beginning.ReportSoFar.{ReportSoFar}
use Rattle.bf_report_reader.specs.Rules.{IsShownReport}
use Rattle.bf_report_reader.specs.inner.Rules.{KeepsRules}
use Rattle.bf_report_reader.specs.Faults.{IsInLine, longest_line, Begins, IsReportText}
use Rattle.bf_report_reader.specs.inner.Beginning.{opening_text, room, runs_of, is_whole_at, so_far}
use Rattle.bf_report_reader.specs.inner.Steps.{Follows, MayEnd, MayStand, IsNext}
use Rattle.bf_report_reader.specs.inner.Extensions.{Leads, Extends, IsKnown}
use Rattle.bf_report_reader.proofs.Splits.{cut_once, none_stands, within_piece, piece_first}
use Rattle.bf_report_reader.proofs.Words.{at_least, same_limit}
use Rattle.bf_report_reader.proofs.StepFacts.{follows_next}
use Rattle.bf_report_reader.proofs.Lines.{follows_once, end_once, stands_in_line, stands_short}

-- ---- texts

abbrev pub end_of : Report → List ℕ
end_of r = line (codes "@end" ∷ decimal (length r.runs) ∷ [])

report_opens : (r : Report) → report_text r ≡ opening_text r ++ end_of r
report_opens r = refl

leads_text : (n : ℕ) (b last : ReportSoFar) → KeepsRules b → Leads n b last → (more : List ℕ) × (opening_text (so_far last) ≡ opening_text (so_far b) ++ more)
leads_text zero b last keeps same = ([], ap (λ (x : ReportSoFar). opening_text (so_far x)) (sym same) ∙ sym (append-nil (opening_text (so_far b))))
leads_text (suc n) b last keeps (text, next, follows, leads) =
    let step = follows_next b next text keeps follows in
    let (more, is) = leads_text n next last step.kept leads in
    ((text ++ 10 ∷ []) ++ more, is ∙ ap (λ l. l ++ more) step.read ∙ append_assoc (opening_text (so_far b)) (text ++ 10 ∷ []) more)

-- ---- the next line

-- the report has this line behind the opening
pub record GoesOn (opening : List ℕ) (report : Report) (Stands : List ℕ → Type 0) : Type 0 where
  pub next : List ℕ
  pub more : List ℕ
  pub text : report_text report ≡ opening ++ ((next ++ 10 ∷ []) ++ more)
  pub in_line : IsInLine next
  pub short : length next ≤ longest_line next
  pub stands : Stands next

-- the line stands next, and the report goes on from it or ends by it
pub record IsNextOf (b : ReportSoFar) (report : Report) (text : List ℕ) : Type 0 where
  pub stands : MayStand b text
  pub onward : (c : ReportSoFar) → Follows b text c → Extends c report
  pub done : MayEnd b text → so_far b ≡ report

pub goes_on : (b : ReportSoFar) (report : Report) → KeepsRules b → Extends b report → GoesOn (opening_text (so_far b)) report (IsNextOf b report)
goes_on b report keeps extends = go extends.lines extends.leads
  where
    go : (n : ℕ) → Leads n b extends.last → GoesOn (opening_text (so_far b)) report (IsNextOf b report)
    go zero same =
        let is : so_far b ≡ report = ap so_far same ∙ extends.is in
        let ends : MayEnd b (codes "@end" ++ 32 ∷ decimal (length (runs_of b))) = (refl, subst (λ (x : ReportSoFar). is_whole_at x ≡ true) (sym same) extends.whole) in
        record {
          next = codes "@end" ++ 32 ∷ decimal (length (runs_of b));
          more = [];
          text = ap report_text (sym is) ∙ report_opens (so_far b) ∙ ap (λ l. opening_text (so_far b) ++ l) (sym (append-nil (end_of (so_far b))));
          in_line = stands_in_line b _ keeps.ruled (inr ends);
          short = stands_short b _ keeps.ruled (inr ends);
          stands = record { stands = inr ends; onward = λ c follows. absurd (end_once b c _ keeps.ruled follows ends); done = λ e. is };
        }
    go (suc n) (text, next, follows, leads) =
        let step = follows_next b next text keeps follows in
        let (more, is) = leads_text n next extends.last step.kept leads in
        let opening = opening_text (so_far b) in
        let on : Extends next report = record { lines = n; last = extends.last; leads = leads; whole = extends.whole; is = extends.is } in
        record {
          next = text;
          more = more ++ end_of (so_far extends.last);
          text = ap report_text (sym extends.is) ∙ report_opens (so_far extends.last) ∙ ap (λ l. l ++ end_of (so_far extends.last)) (is ∙ ap (λ l. l ++ more) step.read ∙ append_assoc opening (text ++ 10 ∷ []) more)
              ∙ append_assoc opening ((text ++ 10 ∷ []) ++ more) (end_of (so_far extends.last)) ∙ ap (λ l. opening ++ l) (append_assoc (text ++ 10 ∷ []) more (end_of (so_far extends.last)));
          in_line = stands_in_line b text keeps.ruled (inl (next, follows));
          short = stands_short b text keeps.ruled (inl (next, follows));
          stands = record {
            stands = inl (next, follows);
            onward = λ c other. subst (λ (x : ReportSoFar). Extends x report) (follows_once b next c text keeps.ruled follows other) on;
            done = λ ends. absurd (end_once b next text keeps.ruled follows ends);
          };
        }

-- ---- lines that stand there

same_line : (opening : List ℕ) (report : Report) (Stands : List ℕ → Type 0) (text rest : List ℕ) → (goes : GoesOn opening report Stands) → IsInLine text → report_text report ≡ opening ++ ((text ++ 10 ∷ []) ++ rest)
    → (goes.next ≡ text) × (goes.more ≡ rest)
same_line opening report Stands text rest goes in_line is =
    let both = append_cancel_left opening _ _ (sym goes.text ∙ is) in
    cut_once 10 goes.next text goes.more rest goes.in_line in_line (sym (append_assoc goes.next (10 ∷ []) goes.more) ∙ both ∙ append_assoc text (10 ∷ []) rest)

-- each report that begins so goes on so
abbrev pub Goes : List ℕ → (Report → List ℕ → Type 0) → Type 0
Goes opening Stands = (report : Report) (more : List ℕ) → IsShownReport report → report_text report ≡ opening ++ more → GoesOn opening report (Stands report)

pub no_such_line : (opening text : List ℕ) (Stands : Report → List ℕ → Type 0) → Goes opening Stands → ((report : Report) → Stands report text → ⊥) → IsInLine text → Begins (opening ++ (text ++ 10 ∷ [])) → ⊥
no_such_line opening text Stands goes none in_line begins =
    let is : report_text begins.report ≡ opening ++ ((text ++ 10 ∷ []) ++ begins.more) = begins.text_is ∙ append_assoc opening (text ++ 10 ∷ []) begins.more in
    let on = goes begins.report _ begins.shown is in
    none begins.report (subst (Stands begins.report) (same_line opening begins.report (Stands begins.report) text begins.more on in_line is).0 on.stands)

pub no_long_line : (opening piece : List ℕ) (Stands : Report → List ℕ → Type 0) → Goes opening Stands → IsInLine piece → length piece ≡ longest_line piece + 1 → Begins (opening ++ piece) → ⊥
no_long_line opening piece Stands goes in_line long begins =
    let is : report_text begins.report ≡ opening ++ (piece ++ begins.more) = begins.text_is ∙ append_assoc opening piece begins.more in
    let on = goes begins.report _ begins.shown is in
    let both = sym (append_assoc on.next (10 ∷ []) on.more) ∙ append_cancel_left opening _ _ (sym on.text ∙ is) in
    let first : take 6 on.next ≡ take 6 piece = piece_first 10 6 on.next on.more piece begins.more in_line (omega (arith, long, at_least piece)) both in
    omega (arith, on.short, long, same_limit on.next piece first, within_piece 10 on.next on.more piece begins.more in_line both)

-- more stands behind the opening
pub not_yet : (opening : List ℕ) (Stands : Report → List ℕ → Type 0) → Goes opening Stands → IsReportText opening → ⊥
not_yet opening Stands goes whole =
    let on = goes whole.report [] whole.shown (whole.text_is ∙ sym (append-nil opening)) in
    let none : (on.next ++ 10 ∷ []) ++ on.more ≡ [] = append_cancel_left opening _ _ (sym on.text ∙ whole.text_is ∙ sym (append-nil opening)) in
    none_stands 10 [] on.next on.more refl (sym none ∙ append_assoc on.next (10 ∷ []) on.more)

-- ---- as far as it was read

pub known_goes : (b : ReportSoFar) → KeepsRules b → IsKnown b → Goes (opening_text (so_far b)) (IsNextOf b)
known_goes b keeps known report more shown is = goes_on b report keeps (known report more shown is)

pub known_next : (b c : ReportSoFar) (text : List ℕ) → KeepsRules b → IsKnown b → IsNext b text c → IsKnown c
known_next b c text keeps known next report more shown is =
    let opening = opening_text (so_far b) in
    let same : report_text report ≡ opening ++ ((text ++ 10 ∷ []) ++ more) = is ∙ ap (λ l. l ++ more) next.read ∙ append_assoc opening (text ++ 10 ∷ []) more in
    let on = known_goes b keeps known report _ shown same in
    let line = same_line opening report (IsNextOf b report) text more on (stands_in_line b text keeps.ruled (inl (c, next.follows))) same in
    on.stands.onward c (subst (λ t. Follows b t c) (sym line.0) next.follows)

-- ---- two reports

-- from one beginning there is one report to a text, whatever follows it
pub one_report : (fuel : ℕ) (b : ReportSoFar) (one two : Report) (more : List ℕ) → room b < fuel → KeepsRules b → Extends b one → Extends b two → report_text two ≡ report_text one ++ more → one ≡ two
one_report zero b one two more less keeps first second is = absurd (omega (arith, less))
one_report (suc fuel) b one two more less keeps first second is =
    let opening = opening_text (so_far b) in
    let a = goes_on b one keeps first in
    let z = goes_on b two keeps second in
    let same : report_text two ≡ opening ++ ((a.next ++ 10 ∷ []) ++ (a.more ++ more)) =
    is ∙ ap (λ l. l ++ more) a.text ∙ append_assoc opening ((a.next ++ 10 ∷ []) ++ a.more) more ∙ ap (λ l. opening ++ l) (append_assoc (a.next ++ 10 ∷ []) a.more more) in
    let line : z.next ≡ a.next = (same_line opening two (IsNextOf b two) a.next (a.more ++ more) z a.in_line same).0 in
    elim a.stands.stands [
      | inl (c, follows) ↦
          let next = follows_next b c a.next keeps follows in
          one_report fuel c one two more (omega (arith, less, next.shrinks)) next.kept (a.stands.onward c follows) (z.stands.onward c (subst (λ t. Follows b t c) (sym line) follows)) is
      | inr ends ↦ sym (a.stands.done ends) ∙ z.stands.done (subst (MayEnd b) (sym line) ends)
    ]
