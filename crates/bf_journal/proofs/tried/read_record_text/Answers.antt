use Rattle.std.proofs.Common.{◌≡◌, ◌∙◌, ap, sym, subst, Some}
use Rattle.std.proofs.lemmas.Result.{IfOk-weaker}
use Rattle.bf_value.specs.declared.name.JobName.{JobName}
use Rattle.bf_value.specs.declared.xval.Xval.{Xval}
use Rattle.bf_value.specs.declared.xval.Xval.TheVariants.{List as ListOf}
use Rattle.bf_value.specs.Json.{value_of_text}
use Rattle.bf_value.specs.Views.{list_of}
use Rattle.bf_plan.proofs.ListLemmas.{some_same}
use Rattle.bf_try.specs.declared.ledger.Entry.{Entry}
use Rattle.bf_journal.specs.Tells.{Tells, TellsText}
use Rattle.bf_journal.specs.inner.Tells.{IsFound}
use Rattle.bf_journal.proofs.Optionals.{found_alike}
use Rattle.bf_journal.proofs.tried.read_record_text.Goals as goal

pub returns-in-Some-List : goal.returns-in-Some-List
returns-in-Some-List c =
    let dag = c.args.plan.now.dag in
    let runs = c.args.runs.now in
    let text = c.args.text.now in
    let value : Xval = list_of c.as_slice.result.now in
    let says : value_of_text 127 text ≡ Some value =
    sym c.in_ok-fields.ensures ∙ c.in-Some-List.is ∙ ap Some c.in-Some-List.field-0-is ∙ ap (λ ps. Some (ListOf ps)) (sym c.as_slice.ensures.plain) in
    let P : JobName × Entry → Type 0 = λ t. Tells dag runs value t.0 t.1 in
    let Q : JobName × Entry → Type 0 = λ t. TellsText dag runs text t.0 t.1 in
    let there : (t : JobName × Entry) → P t → Q t = λ t tells. record { value = value; says = says; tells = tells } in
    let back : (t : JobName × Entry) → Q t → P t = λ t tells. subst (λ v. Tells dag runs v t.0 t.1) (some_same (sym tells.says ∙ says)) tells.tells in
    IfOk-weaker c.read_record_fields.result (IsFound P) (IsFound Q) (found_alike P Q there back) c.read_record_fields.ensures
