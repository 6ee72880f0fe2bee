use Rattle.std.proofs.Common.{◌≡◌, ◌+◌, length, subst, sym, Option, arith}
use Rattle.bf_value.specs.declared.name.JobName.{JobName}
use Rattle.bf_try.specs.declared.ledger.Entry.{Entry}
use Rattle.bf_journal.specs.Tells.{TellsLine, TellsNone}
use Rattle.bf_journal.specs.inner.Tells.{IsFound}
use Rattle.bf_journal.specs.Found.{IsFirstBad}
use Rattle.bf_journal.proofs.Passing.{HasRead, bad_read, more_read}
use Rattle.bf_journal.proofs.told.tries_told_in.Goals as goal

pub loop-line-preserved : goal.loop-line-preserved
loop-line-preserved c =
    let dag = c.args.plan.now.dag in
    let runs = c.args.runs.now in
    let bytes = c.args.bytes.now in
    let line = c.in-Some.line.now in
    let one : TellsLine dag runs line c.in-Some-2.tried.0 c.in-Some-2.tried.1 =
    subst (λ (o : Option (JobName × Entry)). IsFound (λ t. TellsLine dag runs line t.0 t.1) o) c.in-Some-2.is c.in_ok-tried.ensures in
    subst (λ ts. HasRead dag runs bytes c.in-Some.more.now ts) (sym c.in_ok-push-in-Some-2.ensures.items)
    (more_read dag runs bytes c.loop-line.rest.now line c.in-Some.more.now c.loop-line.tries.items c.in-Some-2.tried.0 c.in-Some-2.tried.1 c.loop-line.invariant c.in-Some.ensures.some.0 c.in-Some.ensures.some.2 one)

pub returns-in-None-clause-err : goal.returns-in-None-clause-err
returns-in-None-clause-err c =
    let dag = c.args.plan.now.dag in
    let runs = c.args.runs.now in
    let line = c.in-Some.line.now in
    let tries = c.loop-line.tries in
    let many : c.len.result ≡ length tries.items = omega (arith, c.len.ensures, tries.ok.0) in
    let none : TellsNone dag runs line = subst (λ (o : Option (JobName × Entry)). IsFound (λ t. TellsLine dag runs line t.0 t.1) o) c.in-None.is c.in_ok-tried.ensures in
    subst (λ n. IsFirstBad dag runs c.args.bytes.now (n + 2)) (sym many)
    (bad_read dag runs c.args.bytes.now c.loop-line.rest.now line c.in-Some.more.now tries.items c.loop-line.invariant c.in-Some.ensures.some.2 none)
