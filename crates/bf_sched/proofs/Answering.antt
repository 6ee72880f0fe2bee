-- Tries that have begun, and their answers.
use Rattle.std.proofs.Common.{◌≡◌, sym, ap, ◌∙◌, subst}
use Rattle.bf_try.specs.Asked.{Asked, Answered}
use Rattle.bf_try.proofs.GradeLemmas.{grade_fits}
use Rattle.bf_core.specs.Terms.{JobName}
use Rattle.bf_core.specs.declared.state.Phase.{Phase}
use Rattle.bf_core.specs.Cores.{Backfill}
use Rattle.bf_core.specs.Events.{IsPresent, cell_at, given_in, place_in}
use Rattle.bf_core.proofs.Begun.{begun_given, running_at}
use Rattle.bf_sched.specs.Driving.{IsUnderWay}
use Rattle.bf_sched.specs.Scheduling.{HasBegun, MayFinish, Schedule}

-- a try that has just begun is under way
pub begun_under_way : (s t : Schedule) (ticket : Asked) → HasBegun s ticket t → IsUnderWay t.backfill ticket
begun_under_way s t ticket h = subst (λ (x : Schedule). IsUnderWay x.backfill ticket) (sym h.new_is) (record {
  runs = running_at s.backfill ticket.name waits;
  gives = begun_given s.backfill ticket.name waits ∙ sym h.is_ticket.1;
})
  where
    waits : IsPresent s.backfill.dag s.backfill.state ticket.name Phase.Waiting
    waits = h.is_first.may_begin.0.0

-- its answer ends it
pub may_finish : (b : Backfill) (ticket : Asked) (done : Answered) → IsUnderWay b ticket → done.name ≡ ticket.name → done.given ≡ ticket.given → MayFinish b done
may_finish b ticket done way named given =
    (((runs, grade_fits b.dag done.name.task done.raw), tt), λ at. gives)
  where
    runs : IsPresent b.dag b.state done.name Phase.Running
    runs = subst (λ (n : JobName). IsPresent b.dag b.state n Phase.Running) (sym named) way.runs

    gives : given_in (cell_at b.state done.name.run done.name.task) (place_in b.dag done.name) ≡ done.given
    gives = ap (λ (n : JobName). given_in (cell_at b.state n.run n.task) (place_in b.dag n)) named ∙ (way.gives ∙ sym given)
