-- Reports whose moments are whole seconds, as those that are read are.
use Rattle.std.specs.Prelude.{List}
use Rattle.std.specs.List.{AllByRecursion}
use Rattle.bf_moment.specs.Moment.{IsWhole}
use Rattle.bf_report.specs.declared.report.RunReport.{RunReport}

abbrev pub HasWholeMoments : List RunReport → Type 0
HasWholeMoments runs =
    AllByRecursion (λ run. IsWhole run.interval.start.nanosecond
    × IsWhole run.interval.end.nanosecond) runs
