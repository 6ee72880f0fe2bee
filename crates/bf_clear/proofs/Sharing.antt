-- What is kept of a report may be shared by threads: it is lent to the workers.
use denote.Param.Send.{IsSync, sendable, recorded_sync, struct_sync, view_sync}
use denote.Ref.{NamedLft}
use denote.Struct.Declared as declared
use Rattle.std.proofs.Crossing.{crosses}
use Rattle.bf_value.proofs.sequence.Sequence.TheSendSync as sequence
use Rattle.bf_value.proofs.text.Text.TheSendSync as text
use Rattle.bf_value.proofs.xval.Values.TheLaws.TheKnot as xval
use Rattle.bf_plan.proofs.plan.Plan.TheSendSync as plan
use Rattle.bf_dependents.proofs.found.Followers.TheSendSync as followers
use Rattle.bf_clear.specs.contracts.cleared.Cleared as Cleared
use Rattle.bf_clear.specs.contracts.cleared.Cleared.TheInside as Inside
use Rattle.bf_report.specs.contracts.report.Pull as Pull
use Rattle.bf_report.specs.contracts.report.Told as Told
use Rattle.bf_report.specs.contracts.report.InstanceReport as InstanceReport
use Rattle.bf_report.specs.contracts.report.TaskReport as TaskReport
use Rattle.bf_report.specs.contracts.report.RunReport as RunReport
use Rattle.bf_report.specs.contracts.report.Report as Report

-- `search` spends its steps on a report as a whole, so it is shown part by part
pull : IsSync Pull.the_row
pull = search (sendable, crosses, text.the_sync, xval.crosses) depth 40 fits 20000

told : IsSync Told.the_row
told = search (sendable, crosses, xval.crosses, sequence.the_sync, pull) depth 40 fits 20000

instance : IsSync InstanceReport.the_row
instance = search (sendable, crosses, xval.crosses, told) depth 40 fits 20000

task : IsSync TaskReport.the_row
task = search (sendable, crosses, text.the_sync, sequence.the_sync, xval.crosses, instance) depth 40 fits 20000

run : IsSync RunReport.the_row
run = search (sendable, crosses, task) depth 40 fits 20000

report : IsSync (Report.the_field).row
report = search (sendable, crosses, text.the_sync, sequence.the_sync, run) depth 40 fits 20000

inside : (κ : NamedLft) → IsSync (Inside.the_row κ)
inside κ = recorded_sync _ _ _ ((Inside.the_type κ).to_one)
    (struct_sync (declared.shape (Inside.the_type κ)) (search (sendable, plan.the_sync), (report, (search (sendable, followers.the_sync), tt))))

pub cleared : (κ : NamedLft) → IsSync (Cleared.the_row κ)
cleared κ = view_sync _ _ _ _ _ (inside κ)
