use Rattle.std.proofs.Common.{◌≡◌, ◌≤◌, Bool, ℕ, length, sym, ◌∙◌, subst}
use Rattle.std.proofs.lemmas.Result.{IfErr-weaker, IfOk-weaker}
use Rattle.bf_value.specs.declared.name.JobName.{JobName}
use Rattle.bf_xcom.specs.declared.values.Given.{Given}
use Rattle.bf_try.specs.declared.answers.Raw.{Raw}
use Rattle.bf_table.specs.Tables.{answer_of}
use Rattle.bf_commands.specs.OverTable.{is_single_threaded_in}
use Rattle.bf_commands.specs.inner.OverTable.{IsUnsent, IsWantingWorkers}
use Rattle.bf_commands.proofs.FromKept.{end_over, fail_weaker}
use Rattle.bf_commands.proofs.Over.{end_by_more}
use Rattle.bf_commands.proofs.backfill.resume_over_table.Goals as goal

pub stop_fault_over_table-requires : goal.stop_fault_over_table-requires
stop_fault_over_table-requires g c = fail_weaker (λ n given may. may.1) _ (c.in-Err.ensures {u = tt}).err

pub returns-then-is_single_threaded-clause-end : goal.returns-then-is_single_threaded-clause-end
returns-then-is_single_threaded-clause-end g c =
    let kept = g.K.KeptTries.kept c.args.kept.now in
    let dag = c.args.plan.now.dag in
    let limits = c.args.plan.now.limits in
    let runner = c.in_ok-runner.runner in
    let runs = length c.args.runs.now in
    let workers = c.args.crew.now.workers in
    let may_answer = λ (n : JobName) (given : Given) (raw : Raw). raw ≡ answer_of runner n in
    IfOk-weaker c.resume_alone.result _ _
    (λ ended is. end_over kept dag c.args.table c.args.runs.now runner limits runs workers ended c.in_ok-runner.ensures
    (end_by_more kept may_answer dag limits runs 1 workers ended (subst (λ (n : ℕ). 1 ≤ n) c.count-some.ensures.count c.count-some.ensures.some) is))
    c.resume_alone.ensures.end

pub returns-then-is_single_threaded-clause-wanting : goal.returns-then-is_single_threaded-clause-wanting
returns-then-is_single_threaded-clause-wanting g c =
    IfErr-weaker c.resume_alone.result _ _ (λ fault is. subst (IsWantingWorkers (is_single_threaded_in c.args.crew.now.progress)) (sym is) tt) c.resume_alone.ensures.memory

pub returns-then-is_single_threaded-clause-unsent : goal.returns-then-is_single_threaded-clause-unsent
returns-then-is_single_threaded-clause-unsent g c = IfErr-weaker c.resume_alone.result _ _ (λ fault is. subst IsUnsent (sym is) tt) c.resume_alone.ensures.memory

pub returns-in-Ok-clause-end : goal.returns-in-Ok-clause-end
returns-in-Ok-clause-end g c =
    end_over (g.K.KeptTries.kept c.args.kept.now) c.args.plan.now.dag c.args.table c.args.runs.now c.in_ok-runner.runner c.args.plan.now.limits _ c.args.crew.now.workers c.in-Ok.ended c.in_ok-runner.ensures (c.in-Ok.ensures {u = tt}).end

pub returns-clause-wanting : goal.returns-clause-wanting
returns-clause-wanting g c = subst (λ (b : Bool). IsWantingWorkers b c.stop_fault_over_table.result) (sym c.if-is_single_threaded.false ∙ c.is_single_threaded.ensures) c.stop_fault_over_table.ensures.wanting
