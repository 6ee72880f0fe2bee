use Rattle.std.proofs.Common.{All, List, map, sym, ap, ◌∙◌, subst}
use Rattle.std.proofs.lemmas.Result.{IfOk-weaker}
use Rattle.jiff.specs.declared.timestamp.Timestamp.{Timestamp}
use Rattle.bf_interval.specs.declared.interval.Interval.{Interval}
use Rattle.bf_moment.specs.Moment.{IsShown}
use Rattle.bf_commands.proofs.Over.{answering_by, starts_shown}
use Rattle.bf_commands.proofs.backfill.runner_over.Goals as goal

pub new-requires : goal.new-requires
new-requires c =
    let starts = c.deref.ensures.value ∙ (c.in_ok-starts.ensures ∙ ap (λ (is : List Interval). map (λ i. i.start) is) c.intervals.ensures.intervals) in
    subst (All (λ (start : Timestamp). IsShown start.nanosecond)) (sym starts) (starts_shown c.args.runs.now c.intervals.ensures.shown)

pub returns : goal.returns
returns c =
    let starts = c.deref.ensures.value ∙ (c.in_ok-starts.ensures ∙ ap (λ (is : List Interval). map (λ i. i.start) is) c.intervals.ensures.intervals) in
    IfOk-weaker c.new.result _ _ (λ runner is. answering_by c.args.plan.now.dag c.args.table c.args.runs.now c.deref.result.now runner is starts) c.new.ensures
