use Rattle.std.proofs.Common.{◌≡◌, ◌<◌, ◌++◌, ◌∷◌, [], List, get_or, length, map, take, sym, ap, ◌∙◌, subst, arith}
use Rattle.std.proofs.lemmas.Int.{ints}
use Rattle.std.proofs.lemmas.List.{get_or_default, take_more}
use Rattle.bf_interval.specs.declared.interval.Interval.{Interval}
use Rattle.bf_report.specs.declared.report.RunReport.{RunReport}
use Rattle.bf_report.specs.declared.report.TaskReport.{TaskReport}
use Rattle.bf_clear.specs.Aligning.{tasks_at, told_at}
use Rattle.bf_clear.specs.inner.Aligning.{AreAlignedBy}
use Rattle.bf_clear.proofs.Aligned.{aligned_more}
use Rattle.bf_clear.proofs.aligning.runs_over.Goals as goal

pub loop-i-preserved : goal.loop-i-preserved
loop-i-preserved c =
    let i = c.loop-i.i in
    let intervals = c.args.intervals.now in
    let told = c.args.told.items in
    let within : i < length intervals = c.loop-i-test.true in
    let interval : Interval = c.index-intervals-i.result in
    let is : interval ≡ get_or intervals i interval = c.index-intervals-i.is in
    let tasks = c.take_tasks-tasks.ensures.told ∙ (ap (tasks_at c.loop-i.told.items) is ∙ c.loop-i.invariant.left i interval (omega arith) within) in
    let counts = c.in_ok-tasks_at_places.ensures ∙ ap (λ (ts : List TaskReport). map (told_at ts) c.args.places.now) tasks in
    record {
      so_far = subst (λ (done : List Interval). AreAlignedBy c.args.places.now told done c.push.new.self.items) (sym (take_more intervals i interval within))
          (subst (λ (runs : List RunReport). AreAlignedBy c.args.places.now told (take i intervals ++ get_or intervals i interval ∷ []) runs) (sym {A = List RunReport} c.in_ok-push.ensures.items)
          (aligned_more c.args.places.now told (take i intervals) c.loop-i.runs.items (get_or intervals i interval) _ c.loop-i.invariant.so_far is counts));
      left = λ k d le below.
          (let rises = c.requires.of_runs.rising i k d (omega (arith, le)) below in
          let here : interval ≡ get_or intervals i d = is ∙ get_or_default intervals i interval d within in
          c.take_tasks-tasks.ensures.others (get_or intervals k d) (λ same. (let met = same ∙ ap (λ (x : Interval). x.start.nanosecond) here in omega (arith, ints, rises, met))) ∙ c.loop-i.invariant.left k d (omega (arith, le)) below);
    }
