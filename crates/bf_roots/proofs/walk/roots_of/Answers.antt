use Rattle.std.proofs.Common.{◌≡◌, ◌≤◌, ◌+◌, ℕ, List, ◌∷◌, [], true, false, length, ap, ap₂, sym, ◌∙◌, subst, arith}
use Rattle.std.proofs.lemmas.List.{length_push, nil_from_length}
use Rattle.bf_report.specs.declared.report.TaskReport.{TaskReport}
use Rattle.bf_reason.specs.Runs.{tasks_in, tasks_before}
use Rattle.bf_roots.specs.Walks.{is_seen_in, nothing_seen}
use Rattle.bf_roots.proofs.SeenFacts.{one_less, unseen_in}
use Rattle.bf_roots.proofs.WalkFacts.{begun, ended, few_at, looked, passed}
use Rattle.bf_roots.proofs.walk.roots_of.Goals as goal

pub loop-step-init : goal.loop-step-init
loop-step-init c =
    let dag = c.args.plan.now.dag in let report = c.args.report.now in
    let trail = c.in_ok-trail.trail in
    record {
      goes = begun dag report c.args.run c.args.task trail.seen.items trail.left.items trail.found.items
          (c.in_ok-trail.ensures.seen ∙ ap₂ nothing_seen c.len-runs.ensures (c.len-tasks.ensures ∙ ap (λ d. length d.tasks) c.dag.ensures.dag))
          (c.in_ok-trail.ensures.left ∙ ap (λ step. step ∷ []) c.first_step.ensures)
          c.in_ok-trail.ensures.found;
      shows = c.in_ok-window.ensures.shows;
    }

pub loop-step-preserved-then-is_seen : goal.loop-step-preserved-then-is_seen
loop-step-preserved-then-is_seen c =
    let there : is_seen_in c.loop-step.trail.seen.items c.in-Some.step.run c.in-Some.step.task ≡ true =
    ap (λ seen. is_seen_in seen c.in-Some.step.run c.in-Some.step.task) (sym c.as_slice.ensures.value) ∙ (sym c.is_seen.ensures ∙ c.if-is_seen.true) in
    record {
      goes = passed c.args.plan.now.dag c.args.report.now c.args.run c.args.task c.loop-step.trail.seen.items c.loop-step.trail.left.items c.pop.new.self.items c.loop-step.trail.found.items c.in-Some.step
          c.in-Some.ensures.items there c.loop-step.invariant.goes;
      shows = c.loop-step.invariant.shows;
    }

pub visit-requires-clause-within : goal.visit-requires-clause-within
visit-requires-clause-within c =
    let tasks : ℕ = length c.args.plan.now.dag.tasks in
    subst (λ (told : List TaskReport). length told ≤ tasks) (sym c.in_ok-window-2.ensures.shows.tasks) (few_at tasks c.args.report.now c.in_ok-window-2.window.run c.requires.tasks)

pub loop-step-smaller : goal.loop-step-smaller
loop-step-smaller c =
    let seen = c.loop-step.trail.seen.items in
    let step = c.in-Some.step in
    let unseen : is_seen_in seen step.run step.task ≡ false = ap (λ rows. is_seen_in rows step.run step.task) (sym c.as_slice.ensures.value) ∙ (sym c.is_seen.ensures ∙ c.if-is_seen.false) in
    let looks = c.in_ok-visit.ensures in
    let left : length c.loop-step.trail.left.items ≡ length c.pop.new.self.items + 1 = ap length c.in-Some.ensures.items ∙ length_push c.pop.new.self.items step in
    omega (arith, ap unseen_in looks.seen, one_less seen step.run step.task unseen, looks.few, left)

pub loop-step-preserved : goal.loop-step-preserved
loop-step-preserved c =
    let seen = c.loop-step.trail.seen.items in
    let step = c.in-Some.step in
    let unseen : is_seen_in seen step.run step.task ≡ false = ap (λ rows. is_seen_in rows step.run step.task) (sym c.as_slice.ensures.value) ∙ (sym c.is_seen.ensures ∙ c.if-is_seen.false) in
    let looks = c.in_ok-visit.ensures in
    let window = c.in_ok-window-2.window in
    let shows = c.in_ok-window-2.ensures.shows in
    let report = c.args.report.now in
    record {
      goes = looked c.args.plan.now.dag report c.args.run c.args.task seen c.visit.new.self.seen.items c.loop-step.trail.left.items c.pop.new.self.items c.visit.new.self.left.items
          c.loop-step.trail.found.items c.visit.new.self.found.items step window.settled.items window.before.items c.in-Some.ensures.items unseen
          (shows.tasks ∙ ap (tasks_in report) c.in_ok-window-2.ensures.run) (shows.before ∙ ap (tasks_before report) c.in_ok-window-2.ensures.run)
          looks.seen looks.left looks.found c.loop-step.invariant.goes;
      shows = shows;
    }

pub returns : goal.returns
returns c =
    let left = c.loop-step.trail.left in
    let none : length left.items ≡ 0 = omega (arith, c.in_default.ensures.cases.0, left.ok.0) in
    ended c.args.plan.now.dag c.args.report.now c.args.run c.args.task c.loop-step.trail.seen.items left.items c.loop-step.trail.found.items (nil_from_length left.items none) c.loop-step.invariant.goes
