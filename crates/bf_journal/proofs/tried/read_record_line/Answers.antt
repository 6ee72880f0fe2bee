use Rattle.std.proofs.Common.{◌≡◌, sym, subst, IsUtf8}
use Rattle.std.proofs.lemmas.Result.{IfOk-weaker}
use Rattle.bf_value.specs.declared.name.JobName.{JobName}
use Rattle.bf_try.specs.declared.ledger.Entry.{Entry}
use Rattle.bf_journal.specs.Tells.{TellsLine, TellsText}
use Rattle.bf_journal.specs.inner.Tells.{IsFound}
use Rattle.bf_journal.proofs.Optionals.{found_alike}
use Rattle.bf_journal.proofs.tried.read_record_line.Goals as goal

pub returns-in-Ok : goal.returns-in-Ok
returns-in-Ok c =
    let dag = c.args.plan.now.dag in
    let runs = c.args.runs.now in
    let line = c.args.line.now in
    let same : c.in-Ok.text.now ≡ line = c.in-Ok.ensures.cases.0 in
    let utf8 : IsUtf8 line = c.in-Ok.ensures.cases.1 in
    let P : JobName × Entry → Type 0 = λ t. TellsText dag runs c.in-Ok.text.now t.0 t.1 in
    let Q : JobName × Entry → Type 0 = λ t. TellsLine dag runs line t.0 t.1 in
    let there : (t : JobName × Entry) → P t → Q t = λ t tells. (utf8, subst (λ l. TellsText dag runs l t.0 t.1) same tells) in
    let back : (t : JobName × Entry) → Q t → P t = λ t tells. subst (λ l. TellsText dag runs l t.0 t.1) (sym same) tells.1 in
    IfOk-weaker c.read_record_text.result (IsFound P) (IsFound Q) (found_alike P Q there back) c.read_record_text.ensures
