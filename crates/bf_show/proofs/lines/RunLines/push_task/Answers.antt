use Rattle.std.proofs.Common.{◌++◌, codes, string_bytes, sym, ap, ◌∙◌}
use Rattle.std.proofs.lemmas.Result.{on_ok_weaker}
use Rattle.bf_show.specs.JsonLines.{task_lines}
use Rattle.bf_show.proofs.LineFacts.{no_status_string, skipped_string, upstream_failed_string}
use Rattle.bf_show.proofs.lines.RunLines.push_task.Goals as goal

pub returns-in-NoStatus : goal.returns-in-NoStatus
returns-in-NoStatus c =
    on_ok_weaker c.push_untried.result (λ told. told (codes "no_status") no_status_string ∙ ap (λ task. string_bytes c.args.text.now ++ task_lines c.args.self.now.run.now c.args.id.now task) (sym c.in-NoStatus.is)) c.push_untried.ensures

pub returns-in-Skipped : goal.returns-in-Skipped
returns-in-Skipped c =
    on_ok_weaker c.push_untried-in-Skipped.result (λ told. told (codes "skipped") skipped_string ∙ ap (λ task. string_bytes c.args.text.now ++ task_lines c.args.self.now.run.now c.args.id.now task) (sym c.in-Skipped.is)) c.push_untried-in-Skipped.ensures

pub returns-in-UpstreamFailed : goal.returns-in-UpstreamFailed
returns-in-UpstreamFailed c =
    on_ok_weaker c.push_untried-in-UpstreamFailed.result (λ told. told (codes "upstream_failed") upstream_failed_string ∙ ap (λ task. string_bytes c.args.text.now ++ task_lines c.args.self.now.run.now c.args.id.now task) (sym c.in-UpstreamFailed.is)) c.push_untried-in-UpstreamFailed.ensures
