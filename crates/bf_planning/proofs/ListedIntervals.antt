-- What is listed of a graph's schedule.
use Rattle.std.proofs.Common.{◌≡◌, ℕ, ℤ, true, List, [], ◌∷◌, length, map, Option, All, Result, Ok, Err, arith, ap, ◌∙◌}
use Rattle.std.proofs.lemmas.Int.{ints}
use Rattle.jiff.specs.Types.{TimeZone}
use Rattle.bf_cron.specs.declared.spec.CronSpec.{CronSpec}
use Rattle.bf_zone.specs.Zones.{IsZoneOf}
use Rattle.bf_zone.specs.declared.zone.Zone.{Zone}
use Rattle.bf_interval.specs.declared.interval.Interval.{Interval}
use Rattle.bf_process.specs.Clocks.{clock_in}
use Rattle.bf_planning.specs.declared.range.RunRange.{RunRange}
use Rattle.bf_planning.specs.declared.range.Starts.{Starts}
use Rattle.bf_planning.specs.declared.range.Starts.TheVariants.{Between, On}
use Rattle.bf_command_fault.specs.declared.range.RangeFault.{RangeFault}
use Rattle.bf_command_fault.specs.declared.range.RangeFault.TheVariants.{NoRuns}
use Rattle.bf_planning.specs.Graphs.{IsTimed}
use Rattle.bf_planning.specs.Lists.{HasListing, IsListIn, intervals_text}
use Rattle.bf_planning.specs.inner.Lists.{IsSince1970}
use Rattle.bf_planning.specs.Clocks.{AreClocksOf}
use Rattle.bf_planning.specs.Ranges.{IsRangeAnswer, IsStartsAnswer}

-- what the schedule has in the zone that is lent is the listing of the graph
pub listing : {graph : List ℕ} {file : Option (List ℕ)} {schedule : CronSpec} {zone : Zone} {range : RunRange} {answer : Result (List Interval) RangeFault} (tz : TimeZone)
    → IsTimed graph file schedule zone → IsZoneOf zone tz → IsRangeAnswer schedule tz range answer → HasListing graph file range answer
listing {schedule = schedule} tz timed lends answers = record {
  draft = timed.draft;
  graph_is = timed.graph_is;
  schedule = schedule;
  fires = timed.fires;
  zone = tz;
  zone_is = timed.zone_is tz lends;
  answers = answers;
}

-- where none is listed, and there have to be some
pub none_listed : {graph : List ℕ} {file : Option (List ℕ)} {schedule : CronSpec} {zone : Zone} {range : RunRange} (tz : TimeZone) (found : List Interval)
    → IsTimed graph file schedule zone → IsZoneOf zone tz → IsStartsAnswer schedule tz range.starts (Ok found) → range.some ≡ true → length found ≡ 0 → HasListing graph file range (Err NoRuns)
none_listed tz [] timed lends answers some none = listing tz timed lends (some, answers)
none_listed tz (x ∷ xs) timed lends answers some none = absurd (omega (arith, none))

-- where some are, or none has to be
pub some_listed : {graph : List ℕ} {file : Option (List ℕ)} {schedule : CronSpec} {zone : Zone} {range : RunRange} (tz : TimeZone) (found : List Interval)
    → IsTimed graph file schedule zone → IsZoneOf zone tz → IsStartsAnswer schedule tz range.starts (Ok found) → (range.some ≡ true → ¬ (length found ≡ 0)) → HasListing graph file range (Ok found)
some_listed tz found timed lends answers some = listing tz timed lends (answers, λ wanted none. some wanted (ap length none))

-- what the clocks of the zone that is lent show is what those of the graph's zone show
pub clocks_are : {graph : List ℕ} {file : Option (List ℕ)} {schedule : CronSpec} {zone : Zone} {found : List Interval} {clocks : List ℤ} (tz : TimeZone)
    → IsTimed graph file schedule zone → IsZoneOf zone tz → clocks ≡ map (λ run. clock_in tz run.start.nanosecond) found → AreClocksOf graph file found clocks
clocks_are tz timed lends are = record { draft = timed.draft; graph_is = timed.graph_is; zone = tz; zone_is = timed.zone_is tz lends; clocks_are = are }

-- the text of the intervals that are listed is that of the list
pub listed_text : {graph : List ℕ} {file : Option (List ℕ)} {range : RunRange} {found lent : List Interval} {said bytes : List ℕ} → HasListing graph file range (Ok found) → lent ≡ found → said ≡ intervals_text lent → bytes ≡ said
    → IsListIn graph file range bytes
listed_text {found = found} listing same says is = record { found = found; listing = listing; text_is = is ∙ (says ∙ ap intervals_text same) }

starts_since_1970 : (schedule : CronSpec) (zone : TimeZone) (starts : Starts) (found : List Interval) → IsStartsAnswer schedule zone starts (Ok found) → All IsSince1970 found
starts_since_1970 schedule zone (Between range) found answer k d h =
    let years = answer.0.from_in_years.0 in
    let (interval, after, before) = answer.2.each k d h in
    let rises = interval.rises in
    (omega (arith, ints, years, after), omega (arith, ints, years, after, rises))
starts_since_1970 schedule zone (On days) found answer k d h =
    let (interval, years, on) = answer.2.each k d h in
    let after = years.0 in
    let rises = interval.rises in
    (after, omega (arith, ints, after, rises))

-- no interval that is listed begins or ends before 1970
pub since_1970 : (graph : List ℕ) (file : Option (List ℕ)) (range : RunRange) (found : List Interval) → HasListing graph file range (Ok found) → All IsSince1970 found
since_1970 graph file range found is = starts_since_1970 is.schedule is.zone range.starts found is.answers.0
