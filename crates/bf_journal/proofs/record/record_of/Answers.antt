use Rattle.std.proofs.Common.{◌≡◌, ◌∙◌, ◌<◌, length, ap, sym, subst, Some, None, option_copied, rules}
use Rattle.std.specs.Prelude.{slice_get, string_bytes, String, IfSome}
use Rattle.std.specs.declared.alloc.Global.{Global}
use Rattle.std.proofs.lemmas.Result.{IfOk-weaker}
use Rattle.bf_value.specs.declared.name.JobName.{JobName}
use Rattle.bf_interval.specs.declared.interval.Interval.{Interval}
use Rattle.bf_journal.specs.Records.{IsLineOf, IsName, IsRecord, record_at}
use Rattle.bf_journal.proofs.Optionals.{some_weaker}
use Rattle.bf_journal.proofs.record.record_of.Goals as goal

pub returns-in-Some-clause-some : goal.returns-in-Some-clause-some
returns-in-Some-clause-some c =
    let dag = c.args.plan.now.dag in
    let runs = c.args.runs.now in
    let done = c.args.done.now in
    let run : Interval = c.in-Some.run'.now in
    let name : c.name-name.result ≡ done.name = c.name-name.ensures in
    let is_run : slice_get runs done.name.run ≡ Some run =
    ap (λ (n : JobName). slice_get runs n.run) (sym name) ∙ sym c.interval_of_run.ensures.run ∙ ap option_copied c.in-Some.is in
    let is_task : done.name.task < length dag.tasks = search rules in
    let own : IsName c.name-name.result = (search rules, search rules) in
    let is_name : IsName done.name = subst IsName name own in
    let P : String Global → Type 0 = λ line. IsLineOf (record_at dag run done c.args.outcome.now c.args.stamp) (string_bytes line) in
    let Q : String Global → Type 0 = λ line. IsRecord dag runs done c.args.outcome.now c.args.stamp (string_bytes line) in
    let there : (line : String Global) → P line → Q line =
    λ line told. record { run = run; is_run = is_run; is_task = is_task; is_name = is_name; told = told } in
    IfOk-weaker c.record_line_of.result (λ o. IfSome o P) (λ o. IfSome o Q) (some_weaker P Q there) c.record_line_of.ensures.some

pub returns-in-None-clause-none : goal.returns-in-None-clause-none
returns-in-None-clause-none c run is_run is_task deep =
    let runs = c.args.runs.now in
    let none : None ≡ Some run =
    ap option_copied (sym c.in-None.is) ∙ c.interval_of_run.ensures.run ∙ ap (λ (n : JobName). slice_get runs n.run) c.name-name.ensures ∙ is_run in
    absurd (cc none)
