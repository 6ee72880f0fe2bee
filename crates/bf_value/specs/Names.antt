-- The order of names: by run, task, index and try.
use Rattle.std.proofs.Common.{Ordering}
use Rattle.std.specs.Ordering.{nat_cmp, int_cmp, then_cmp, on}
use Rattle.std.specs.Coded.{Coded}
use base.Stored.{coded_via, coded×, coded_ℕ, coded_ℤ}
use Rattle.bf_value.specs.declared.name.JobName.{JobName}

abbrev pub name_cmp : JobName → JobName → Ordering
name_cmp =
    then_cmp (on (λ n. n.run) nat_cmp)
    (then_cmp (on (λ n. n.task) nat_cmp)
    (then_cmp (on (λ n. n.index) int_cmp) (on (λ n. n.attempt) nat_cmp)))

abbrev pub name_code : Coded JobName
name_code =
    coded_via (coded× coded_ℕ (coded× coded_ℕ (coded× coded_ℤ coded_ℕ)))
    (λ n. (n.run, (n.task, (n.index, n.attempt))))
    (λ a b e i. record {
      run = (e i).0;
      task = (e i).1.0;
      index = (e i).1.1.0;
      attempt = (e i).1.1.1;
    })
