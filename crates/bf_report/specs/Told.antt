-- Instances, as they are kept.
use Rattle.std.specs.Prelude.{ℕ, [], None, Some, box_value}
use Rattle.bf_value.specs.declared.xval.Xval.{Xval}
use Rattle.bf_xcom.specs.declared.values.Outcome.{Outcome}
use Rattle.bf_xcom.specs.declared.values.Outcome.TheVariants.{Success, Failed, Skipped}
use Rattle.bf_report.specs.declared.report.Told.{Told}
use Rattle.bf_report.specs.declared.report.Kept.{Kept}
use Rattle.bf_report.specs.declared.report.InstanceReport.TheInside.{Inside}
use Rattle.bf_report.specs.Instances.{ReportedInstance}

-- an instance that was given nothing
abbrev pub bare_by : ℕ → Outcome → ReportedInstance
bare_by tries outcome =
    record { result = record { outcome = outcome; tries = tries }; item = None; pulls = [] }

abbrev pub told_with : ℕ → Told → ReportedInstance
told_with tries told =
    record {
      result = record { outcome = told.outcome; tries = tries };
      item = told.item;
      pulls = told.pulls;
    }

-- a success that was given this item, and neither pushed nor pulled anything
abbrev pub success_with : ℕ → Xval → ReportedInstance
success_with tries item = record (bare_by tries (Success None)) { item = Some item }

-- an instance of so many tries by how it is kept: a word stands for one that pushed nothing and was given nothing
abbrev pub told_by : ℕ → Kept → ReportedInstance
told_by tries Kept.Success = bare_by tries (Success None)
told_by tries Kept.Failed = bare_by tries Failed
told_by tries Kept.Skipped = bare_by tries Skipped
told_by tries (Kept.SuccessWith item) = success_with tries (box_value item)
told_by tries (Kept.Told told) = told_with tries (box_value told)

abbrev pub instance_told : Inside → ReportedInstance
instance_told instance = told_by instance.tries instance.kept
