use Rattle.std.proofs.Common.{◌≡◌, ◌∷◌, ◌++◌, Result, Ok, Err, codes, ap, sym, subst, ◌∙◌, rules}
use Rattle.std.specs.Prelude.{IfOk}
use Rattle.bf_report_reader.specs.inner.Steps.{Steps}
use Rattle.bf_report_reader.proofs.Lines.{end_steps, entry_steps, IsOtherWord}
use Rattle.bf_report_reader.proofs.reading.read_line.Goals as goal

pub returns-then-eq-4 : goal.returns-then-eq-4
returns-then-eq-4 c =
    let word : c.in-Some.first.now ≡ codes "@end" = search (rules, c.if-eq-4.true, c.if-eq-4.ensures) in
    let line : c.args.line.now ≡ codes "@end" ++ 32 ∷ c.in-Some.text.now = c.in-Some.ensures.some ∙ ap (λ w. w ++ 32 ∷ c.in-Some.text.now) word in
    subst (λ l. Steps c.end_or_refused.result c.args.beginning.now l c.args.beginning.now) (sym line) (end_steps c.args.beginning.now c.in-Some.text.now c.end_or_refused.result c.requires.ruled c.end_or_refused.ensures)

each_ok : {X E : Type 0} (r : Result X E) (P Q : X → Type 0) → ((x : X) → P x → Q x) → IfOk r P → IfOk r Q
each_ok (Ok x) P Q from p = from x p
each_ok (Err e) P Q from p = tt

pub returns : goal.returns
returns c =
    let other : IsOtherWord c.in-Some.first.now = record {
      word = c.in-Some.ensures.word;
      not_run = search (rules, c.if-eq.false, c.if-eq.ensures);
      not_item = search (rules, c.if-eq-2.false, c.if-eq-2.ensures);
      not_pull = search (rules, c.if-eq-3.false, c.if-eq-3.ensures);
      not_end = search (rules, c.if-eq-4.false, c.if-eq-4.ensures);
    } in
    each_ok c.read_task.result _ _
    (λ step steps. subst (λ l. Steps step c.args.beginning.now l c.read_task.new.beginning) (sym c.in-Some.ensures.some)
    (entry_steps c.args.beginning.now c.read_task.new.beginning c.in-Some.first.now c.in-Some.text.now step other c.requires.ruled steps))
    c.read_task.ensures
