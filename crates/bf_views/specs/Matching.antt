-- Whether a report is one of a graph, whatever its data intervals are.
use Rattle.std.specs.Prelude.{Bool, List, map}
use Rattle.bf_interval.specs.declared.interval.Interval.{Interval}
use Rattle.bf_plan.specs.declared.plan.Dag.{Dag}
use Rattle.bf_report.specs.declared.report.RunReport.{RunReport}
use Rattle.bf_report.specs.declared.report.Report.{Report}
use Rattle.bf_clear.specs.Matching.{is_report_in}

abbrev pub intervals_in : List RunReport → List Interval
intervals_in runs = map (λ run. run.interval) runs

-- it has the dag id and the tasks of the graph, and in version 2 their pulls
abbrev pub is_of_graph : Dag → Report → Bool
is_of_graph dag report = is_report_in dag (intervals_in report.runs) report
