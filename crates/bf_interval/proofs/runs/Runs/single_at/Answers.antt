use Rattle.std.proofs.Common.{◌∙◌, ap, ◌++◌, [], ◌∷◌, List, sym, subst, rules}
use Rattle.bf_interval.specs.declared.interval.Interval.{Interval}
use Rattle.bf_interval.specs.Runs.{AreOfRuns}
use Rattle.bf_interval.specs.Years.{IsInYears}
use Rattle.bf_interval.proofs.OfRuns.{of_run_at}
use Rattle.bf_interval.proofs.runs.Runs.single_at.Goals as goal

pub invariant_of-result : goal.invariant_of-result
invariant_of-result c =
    let inside : IsInYears c.args.moment.nanosecond = search rules in
    let one = c.in_ok-push.ensures.items ∙ ap (λ (is : List Interval). is ++ (record { start = c.args.moment; end = c.args.moment }) ∷ []) c.in_ok-intervals.ensures.items in
    subst AreOfRuns (sym one) (of_run_at c.args.moment inside (c.requires inside))
