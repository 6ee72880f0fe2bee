-- Backfills over a table.
use Rattle.std.proofs.Common.{◌≡◌, ◌≤◌, ℕ, zero, suc, List, [], ◌∷◌, map, All, ◌∙◌, arith}
use Rattle.jiff.specs.declared.timestamp.Timestamp.{Timestamp}
use Rattle.bf_value.specs.declared.name.JobName.{JobName}
use Rattle.bf_plan.specs.declared.plan.Dag.{Dag}
use Rattle.bf_plan.specs.declared.plan.Limits.{Limits}
use Rattle.bf_interval.specs.declared.interval.Interval.{Interval}
use Rattle.bf_interval.specs.Intervals.{IsShownInterval}
use Rattle.bf_xcom.specs.declared.values.Given.{Given}
use Rattle.bf_try.specs.declared.answers.Raw.{Raw}
use Rattle.bf_try.specs.Tries.{Ledger}
use Rattle.bf_core.specs.Endings.{Ending}
use Rattle.bf_table.specs.declared.table.TableEntry.{TableEntry}
use Rattle.bf_table.specs.Tables.{Answering, dates_in}
use Rattle.bf_moment.specs.Moment.{IsShown}
use Rattle.bf_commands.specs.OverTable.{answering}
use Rattle.bf_commands.specs.inner.Reported.{IsEndFrom}

-- a runner over the starts of the intervals answers as the table does for them
pub answering_by : (dag : Dag) (table : List TableEntry) (intervals : List Interval) (starts : List Timestamp) (runner : Answering) → runner ≡ record { dag = dag; dates = dates_in starts; entries = table } → starts ≡ map (λ i. i.start) intervals
    → runner ≡ answering dag table intervals
answering_by dag table intervals starts runner is same = is ∙ (λ i. record { dag = dag; dates = dates_in (same i); entries = table })

-- the starts of intervals whose moments have years of four digits
pub starts_shown : (intervals : List Interval) → All IsShownInterval intervals → All (λ (start : Timestamp). IsShown start.nanosecond) (map (λ i. i.start) intervals)
starts_shown [] shown k d below = let none : ⊥ = omega arith in absurd none
starts_shown (i ∷ is) shown zero d below = (shown zero i (omega arith)).0
starts_shown (i ∷ is) shown (suc k) d below = starts_shown is (λ j e l. shown (suc j) e (omega arith)) k d (omega arith)

-- the end of a backfill in which no more tries ran at once than these is one in which no more did than those
pub end_by_more : (kept : Ledger) (may_answer : JobName → Given → Raw → Type 0) (dag : Dag) (limits : Limits) (runs few many : ℕ) (ending : Ending) → few ≤ many
    → IsEndFrom kept may_answer dag limits runs few ending → IsEndFrom kept may_answer dag limits runs many ending
end_by_more kept may_answer dag limits runs few many ending more is = record {
  of = is.of;
  again = is.again;
  anew = is.anew;
  all = is.all;
  within = record { within = λ before rest are. (let now = is.within.within before rest are in omega (arith, now, more)) };
}
