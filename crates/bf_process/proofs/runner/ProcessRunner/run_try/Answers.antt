use Rattle.std.proofs.Common.{rules, arith, subst}
use Rattle.std.proofs.lemmas.Result.{IfOk-weaker, IfErr-weaker}
use Rattle.bf_failure.specs.Tried.{IsContextOf}
use Rattle.bf_process.specs.Words.{IsHeard, IsLost, lost_through, Programs, through}
use Rattle.bf_process.proofs.Held.{holds_of_try}
use Rattle.bf_process.proofs.runner.ProcessRunner.run_try.Goals as goal

pub returns-clause-ok : goal.returns-clause-ok
returns-clause-ok g c =
    let self = c.args.self.now in
    let of = subst (λ (s : Programs _). IsContextOf s.dag s.intervals c.args.name c.in-Some-Some.context) c.self.view_is c.in-Some-Some.ensures'.some in
    IfOk-weaker c.run_command.result _ _ (λ heard. holds_of_try _ (λ try. IsHeard (through self.launching (g.S.Starter.may_hear self.starter)) try heard.raw) self.dag self.intervals c.args.name c.args.given.now c.in-Some-Some.context c.in-Some-Some.task.now of (grind (arith, rules)))
    c.run_command.ensures.ok

pub returns-clause-err : goal.returns-clause-err
returns-clause-err g c =
    let self = c.args.self.now in
    let of = subst (λ (s : Programs _). IsContextOf s.dag s.intervals c.args.name c.in-Some-Some.context) c.self.view_is c.in-Some-Some.ensures'.some in
    IfErr-weaker c.run_command.result _ _ (λ fault lost is. holds_of_try _ (IsLost (lost_through self.launching (g.S.Starter.may_lose self.starter))) self.dag self.intervals c.args.name c.args.given.now c.in-Some-Some.context c.in-Some-Some.task.now of (grind (arith, rules)) (lost is))
    c.run_command.ensures.err
