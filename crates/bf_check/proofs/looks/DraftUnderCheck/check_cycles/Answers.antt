use Rattle.std.proofs.Common.{[], ℕ, List, length, map, Contains, slice_index_or, ap, sym, ◌∙◌, subst, arith}
use Rattle.std.proofs.lemmas.List.{length-map}
use Rattle.bf_graph.specs.Cycles.{IsNamedCycle}
use Rattle.bf_graph.specs.Edges.{lists, AreInRange, IsAcyclic}
use Rattle.bf_graph.proofs.AcyclicLemmas.{cycle_within}
use Rattle.bf_read.specs.declared.draft.TaskDraft.{TaskDraft}
use Rattle.bf_check.specs.declared.fault.TaskFault.TheVariants.{UnknownUpstream}
use Rattle.bf_check.specs.Checking.{ids_of, number_or_0}
use Rattle.bf_check.proofs.FaultLemmas.{with_edges}
use Rattle.bf_check.proofs.PlanLemmas.{in_range}
use Rattle.bf_check.proofs.looks.DraftUnderCheck.check_cycles.Goals as goal

pub build-requires-clause-in_range : goal.build-requires-clause-in_range
build-requires-clause-in_range c = subst AreInRange (sym c.requires.upstreams) (in_range c.args.self.now.draft.now (c.requires.below.tasks UnknownUpstream (omega arith)))

pub ids_at-requires : goal.ids_at-requires
ids_at-requires c = λ t one.
    let draft = c.args.self.now.draft.now in
    let edges = lists c.args.upstreams.items in
    let inside = subst AreInRange (sym c.requires.upstreams) (in_range draft (c.requires.below.tasks UnknownUpstream (omega arith))) in
    let named : IsNamedCycle edges c.in-Err-Cycle.cycle = rw c.in-Err-Cycle.field-0-is at c.in-Err-Cycle.ensures.cycle in
    let within = cycle_within edges _ t inside named.cycle (subst (λ (ts : List ℕ). Contains ts t) c.as_slice.ensures one) in
    omega (arith, within, ap length c.requires.upstreams, length-map draft.tasks (λ (task : TaskDraft). map (number_or_0 (ids_of draft.tasks)) task.upstreams), ap length c.as_slice-tasks.ensures)

pub returns-in-Ok-clause-ok : goal.returns-in-Ok-clause-ok
returns-in-Ok-clause-ok c = with_edges c.args.self.now.draft.now c.requires.below (subst IsAcyclic c.requires.upstreams c.in-Ok.ensures.acyclic)

pub returns-in_ok-names-in-Err-Cycle-clause-err : goal.returns-in_ok-names-in-Err-Cycle-clause-err
returns-in_ok-names-in-Err-Cycle-clause-err c =
    let draft = c.args.self.now.draft.now in
    let edges = lists c.args.upstreams.items in
    let named : IsNamedCycle edges c.in-Err-Cycle.cycle = rw c.in-Err-Cycle.field-0-is at c.in-Err-Cycle.ensures.cycle in
    let names = c.from_vec.ensures ∙ c.in_ok-names-in-Err-Cycle.ensures ∙ ap (map (λ t. slice_index_or (ids_of c.as_slice-tasks.result.now) t [])) c.as_slice.ensures ∙ ap (λ (tasks : List TaskDraft). map (λ t. slice_index_or (ids_of tasks) t []) c.in-Err-Cycle.cycle) c.as_slice-tasks.ensures in
    ((c.in-Err-Cycle.cycle, subst (λ (ups : List (List ℕ)). IsNamedCycle ups c.in-Err-Cycle.cycle) c.requires.upstreams named, names), c.requires.below)
