use Rattle.std.proofs.Common.{sym, subst}
use Rattle.std.specs.FinMap as map
use Rattle.bf_value.specs.declared.name.JobName.{JobName}
use Rattle.bf_value.specs.Names.{name_cmp}
use Rattle.bf_try.specs.declared.ledger.Entry.{Entry}
use Rattle.bf_journal.proofs.Lasting.{IsLeft, none_noted, one_noted, tasks_of_rest}
use Rattle.bf_journal.proofs.last.last_of.Goals as goal

pub loop-name-init : goal.loop-name-init
loop-name-init c =
    let dag = c.args.plan.now.dag in
    let tries = c.args.tries.items in
    record {
      of_tasks = c.requires;
      left = subst (λ (m : map.FinMap name_cmp Entry). IsLeft dag tries tries (map.get m)) (sym c.new-ledger.ensures) (none_noted dag tries);
    }

pub note_earlier_fit-requires : goal.note_earlier_fit-requires
note_earlier_fit-requires c =
    let try : JobName × Entry = (c.in-Some.name, c.in-Some.entry) in
    (tasks_of_rest c.args.plan.now.dag c.loop-name.tries.items c.pop.new.self.items try c.in-Some.ensures.items c.loop-name.invariant.of_tasks).0

pub loop-name-preserved : goal.loop-name-preserved
loop-name-preserved c =
    let dag = c.args.plan.now.dag in
    let try : JobName × Entry = (c.in-Some.name, c.in-Some.entry) in
    let was = c.loop-name.tries.items in
    let rest = c.pop.new.self.items in
    record {
      of_tasks = (tasks_of_rest dag was rest try c.in-Some.ensures.items c.loop-name.invariant.of_tasks).1;
      left = one_noted dag c.args.tries.items was rest try (map.get c.loop-name.ledger) (map.get c.note_earlier_fit.new.ledger) c.loop-name.invariant.left c.in-Some.ensures.items c.in_ok-note_earlier_fit.ensures.ok;
    }
