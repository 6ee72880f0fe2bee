use Rattle.std.proofs.Common.{◌≡◌, subst, length, Option, arith}
use Rattle.std.proofs.lemmas.Bool.Decides.{nat_tests}
use Rattle.bf_try.specs.declared.ledger.Entry.{Entry}
use Rattle.bf_journal.specs.inner.Tells.{IsFound, TellsEntry}
use Rattle.bf_journal.proofs.Reading.{count_of, entry_of, name_of, tells_of}
use Rattle.bf_journal.proofs.tried.read_record_fields.Goals as goal

pub returns-then-fields-ne-MEMBERS : goal.returns-then-fields-ne-MEMBERS
returns-then-fields-ne-MEMBERS c try tells =
    let nine : length c.args.fields.now ≡ 9 = count_of c.args.plan.now.dag c.args.runs.now c.args.fields.now try.0 try.1 tells in
    absurd (grind (arith, nat_tests, nine, c.if-fields-ne-MEMBERS.true))

pub returns-in_default : goal.returns-in_default
returns-in_default c try tells =
    c.in_default.ensures try.0 (name_of c.args.plan.now.dag c.args.runs.now c.args.fields.now try.0 try.1 tells c.dag-dag.ensures.named)

pub returns-in-Some-2 : goal.returns-in-Some-2
returns-in-Some-2 c =
    let fields = c.args.fields.now in
    let nine : length fields ≡ 9 = grind (arith, nat_tests, c.if-fields-ne-MEMBERS.false) in
    tells_of c.args.plan.now.dag c.args.runs.now fields c.in-Some.name c.in-Some-2.entry nine c.in-Some.ensures
    (subst (λ (o : Option Entry). IsFound (TellsEntry fields) o) c.in-Some-2.is c.in_ok-entry.ensures)

pub returns-in-None : goal.returns-in-None
returns-in-None c try tells =
    let fields = c.args.fields.now in
    subst (λ (o : Option Entry). IsFound (TellsEntry fields) o) c.in-None.is c.in_ok-entry.ensures try.1
    (entry_of c.args.plan.now.dag c.args.runs.now fields try.0 try.1 tells)
