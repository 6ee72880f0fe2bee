use Rattle.std.proofs.Common.{◌≡◌, subst, Option}
use Rattle.bf_value.specs.declared.xval.Xval.{Xval}
use Rattle.bf_journal.specs.Records.{optional_value_of}
use Rattle.bf_journal.specs.inner.Tells.{IsFound}
use Rattle.bf_journal.proofs.Optionals.{none_listed}
use Rattle.bf_journal.proofs.field.pulled_values_of.Goals as goal

pub returns-in-None : goal.returns-in-None
returns-in-None c =
    let value = c.value-item.result in
    none_listed c.args.values.now c.loop-value.value-index value c.loop-value-test.true c.value-item.is
    (subst (λ (o : Option (Option Xval)). IsFound (λ x. value ≡ optional_value_of x) o) c.in-None.is c.in_ok-one.ensures)
