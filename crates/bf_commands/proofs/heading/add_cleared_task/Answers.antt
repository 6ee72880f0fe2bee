use Rattle.std.proofs.Common.{◌≡◌, Bor, Option, Some, option_map, slice_get, sym, ap, ◌∙◌, subst}
use Rattle.bf_interval.specs.declared.interval.Interval.{Interval}
use Rattle.bf_interval.specs.Intervals.{IsShownInterval}
use Rattle.bf_commands.specs.inner.Journaled.{AddsTold}
use Rattle.bf_commands.proofs.Headings.{all_at, looked_up}
use Rattle.bf_commands.proofs.heading.add_cleared_task.Goals as goal

pub cleared_task_of-requires : goal.cleared_task_of-requires
cleared_task_of-requires c =
    let looked : option_map (λ (x : Bor Interval). x.now) c.get.result ≡ slice_get c.intervals.result.now c.args.place.run =
    looked_up _ c.intervals.result.now c.args.place.run c.get.result c.get.ensures.lookup.1 c.get.ensures.lookup.3 in
    let there : slice_get c.args.runs.now c.args.place.run ≡ Some c.in-Some.interval.now =
    rw c.intervals.ensures.intervals at (sym looked ∙ ap (option_map (λ (x : Bor Interval). x.now)) c.in-Some.is) in
    all_at IsShownInterval c.args.runs.now c.args.place.run c.in-Some.interval.now c.intervals.ensures.shown there

pub returns : goal.returns
returns c =
    let looked : option_map (λ (x : Bor Interval). x.now) c.get.result ≡ slice_get c.intervals.result.now c.args.place.run =
    looked_up _ c.intervals.result.now c.args.place.run c.get.result c.get.ensures.lookup.1 c.get.ensures.lookup.3 in
    let there : slice_get c.args.runs.now c.args.place.run ≡ Some c.in-Some.interval.now =
    rw c.intervals.ensures.intervals at (sym looked ∙ ap (option_map (λ (x : Bor Interval). x.now)) c.in-Some.is) in
    subst (λ (o : Option Interval). AddsTold c.args.dag.now o c.args.place c.args.cleared.now.items c.push.new.self.items) (sym there)
    (c.in_ok-told.told, c.in_ok-told.ensures, c.in_ok-push.ensures.items)
