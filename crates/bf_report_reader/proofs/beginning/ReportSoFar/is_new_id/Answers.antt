use Rattle.std.proofs.Common.{◌&&◌, not, nat_lt, length, sym, ap}
use Rattle.std.specs.List.{list_any}
use Rattle.std.specs.Str.{bytes_eq}
use Rattle.bf_report_reader.proofs.Words.{no_id}
use Rattle.bf_report_reader.proofs.beginning.ReportSoFar.is_new_id.Goals as goal

pub returns-in_default : goal.returns-in_default
returns-in_default c =
    let id = c.args.id.now in
    let tasks = c.args.self.now.tasks in
    sym (ap (λ b. (b && nat_lt (length tasks) 2_000) && not (list_any (λ task. bytes_eq task id) tasks)) (no_id id c.in_default.ensures.cases.0))
