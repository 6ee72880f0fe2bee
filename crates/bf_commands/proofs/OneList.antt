-- The files and the range leave one listing.
use Rattle.std.proofs.Common.{◌≡◌, ◌&&◌, ℕ, ℤ, ◌+ℤ◌, int_lt, not, Bool, true, List, Option, Some, None, Ok, get_or, sym, ap, ◌∙◌, subst}
use Rattle.jiff.specs.Types.{DateTime, TimeZone}
use Rattle.jiff.specs.Words.{nanos_of_seconds, offset_at, picked_instant}
use Rattle.bf_cron.specs.Cron.{Schedule, IsRead, spec_matches}
use Rattle.bf_cron.specs.declared.spec.CronSpec.{CronSpec}
use Rattle.bf_cron.proofs.Rules.{matches_is}
use Rattle.bf_zone.specs.Zones.{asked, IsZone}
use Rattle.bf_zone.proofs.SameZone.{same_instants}
use Rattle.bf_read.specs.Reading.{GraphFile, graph_file_of}
use Rattle.bf_check.specs.Schedules.{IsScheduleOf}
use Rattle.bf_moment.specs.Moment.{day_of}
use Rattle.bf_interval.specs.Fires.{IsFire, IsInterval}
use Rattle.bf_interval.specs.Intervals.{AreIntervals, StartsIn, ends}
use Rattle.bf_interval.specs.declared.interval.Interval.{Interval}
use Rattle.bf_interval.proofs.OneListing as listings
use Rattle.bf_days.specs.Listing.{AreIntervalsOn, StartsOn}
use Rattle.bf_days.specs.declared.days.Days.{Days}
use Rattle.bf_days.proofs.OneListing as day_listings
use Rattle.bf_planning.specs.declared.range.RunRange.{RunRange}
use Rattle.bf_planning.specs.declared.range.Starts.{Starts}
use Rattle.bf_planning.specs.declared.range.Starts.TheVariants.{Between, On}
use Rattle.bf_planning.specs.Lists.{HasListing}
use Rattle.bf_planning.specs.Ranges.{IsStartsAnswer}
use Rattle.bf_commands.proofs.SameClocks.{same_clocks}

-- whether one of the days is shown where the clock is so many seconds ahead of UTC
abbrev is_shown_on : Days → ℤ → ℤ → Bool
is_shown_on days n ahead = not (int_lt (day_of (n +ℤ nanos_of_seconds ahead)) days.first) && not (int_lt days.last (day_of (n +ℤ nanos_of_seconds ahead)))

-- two words that keep one schedule match the same civil minutes
same_minutes : (said : Option Schedule) (x y : CronSpec) (at : DateTime) → IsRead said (Ok x) → IsRead said (Ok y) → spec_matches x at ≡ spec_matches y at
same_minutes (Some s) x y at keeps_x keeps_y = matches_is x s at keeps_x ∙ sym (matches_is y s at keeps_y)
same_minutes None x y at wrong other = absurd wrong

module _ (x y : CronSpec) (one two : TimeZone) (matching : (at : DateTime) → spec_matches x at ≡ spec_matches y at) (placed : (at : DateTime) → picked_instant one at ≡ picked_instant two at) where
  same_fires : (instant : ℤ) → IsFire x one instant → IsFire y two instant
  same_fires instant fire = record {
    minute = fire.minute;
    in_dates = fire.in_dates;
    at = fire.at;
    shown = fire.shown;
    matching = sym (matching fire.at) ∙ fire.matching;
    placed = fire.placed ∙ placed fire.at;
  }

module _ (x y : CronSpec) (one two : TimeZone) (matching : (at : DateTime) → spec_matches x at ≡ spec_matches y at) (placed : (at : DateTime) → picked_instant one at ≡ picked_instant two at) where
  back : (instant : ℤ) → IsFire y two instant → IsFire x one instant
  back = same_fires y x two one (λ at. sym (matching at)) (λ at. sym (placed at))

  same_interval : (start end : ℤ) → IsInterval x one start end → IsInterval y two start end
  same_interval start end is = record {
    opens = same_fires x y one two matching placed start is.opens;
    closes = same_fires x y one two matching placed end is.closes;
    rises = is.rises;
    next = λ later fire above. is.next later (back later fire) above;
  }

  same_start : (from to : ℤ) (i : ℤ × ℤ) → StartsIn x one from to i → StartsIn y two from to i
  same_start from to (start, end) (is, after, before) = (same_interval start end is, after, before)

  same_start_on : ((n : ℤ) → offset_at one n ≡ offset_at two n) → (days : Days) (i : ℤ × ℤ) → StartsOn x one days i → StartsOn y two days i
  same_start_on clocks days (start, end) (is, years, on) = (same_interval start end is, years, subst (λ (o : ℤ). is_shown_on days start o ≡ true) (clocks start) on)

module _ (x y : CronSpec) (one two : TimeZone) (matching : (at : DateTime) → spec_matches x at ≡ spec_matches y at) (placed : (at : DateTime) → picked_instant one at ≡ picked_instant two at) where
  same_intervals : (from to : ℤ) (found : List Interval) → AreIntervals x one from to found → AreIntervals y two from to found
  same_intervals from to found are = record {
    rising = are.rising;
    each = λ k d h. same_start x y one two matching placed from to (ends (get_or found k d)) (are.each k d h);
    all = λ i starts. are.all i (same_start y x two one (λ at. sym (matching at)) (λ at. sym (placed at)) from to i starts);
  }

  same_intervals_on : ((n : ℤ) → offset_at one n ≡ offset_at two n) → (days : Days) (found : List Interval) → AreIntervalsOn x one days found → AreIntervalsOn y two days found
  same_intervals_on clocks days found are = record {
    rising = are.rising;
    each = λ k d h. same_start_on x y one two matching placed clocks days (ends (get_or found k d)) (are.each k d h);
    all = λ i starts. are.all i (same_start_on y x two one (λ at. sym (matching at)) (λ at. sym (placed at)) (λ n. sym (clocks n)) days i starts);
  }

module _ (x y : CronSpec) (one two : TimeZone) (matching : (at : DateTime) → spec_matches x at ≡ spec_matches y at) (placed : (at : DateTime) → picked_instant one at ≡ picked_instant two at) where
  one_start : ((n : ℤ) → offset_at one n ≡ offset_at two n) → (starts : Starts) (xs ys : List Interval) → IsStartsAnswer x one starts (Ok xs) → IsStartsAnswer y two starts (Ok ys) → xs ≡ ys
  one_start clocks (Between range) xs ys a b =
      let from : ℤ = range.from.nanosecond in
      let to : ℤ = range.to.nanosecond in
      listings.one_listing x one from to xs ys a.2 (same_intervals y x two one (λ at. sym (matching at)) (λ at. sym (placed at)) from to ys b.2)
  one_start clocks (On days) xs ys a b =
      day_listings.one_listing x one days xs ys a.2 (same_intervals_on y x two one (λ at. sym (matching at)) (λ at. sym (placed at)) (λ n. sym (clocks n)) days ys b.2)

pub one_list : (graph : List ℕ) (file : Option (List ℕ)) (range : RunRange) (xs ys : List Interval) → HasListing graph file range (Ok xs) → HasListing graph file range (Ok ys) → xs ≡ ys
one_list graph file range xs ys a b =
    let said : Ok (graph_file_of a.draft) ≡ Ok (graph_file_of b.draft) = sym a.graph_is.says ∙ b.graph_is.says in
    let one_file : graph_file_of a.draft ≡ graph_file_of b.draft = cc in
    let text : b.draft.schedule ≡ a.draft.schedule = sym (ap (λ (f : GraphFile). f.schedule) one_file) in
    let zone : b.draft.zone ≡ a.draft.zone = sym (ap (λ (f : GraphFile). f.zone) one_file) in
    let says : IsScheduleOf a.draft.schedule b.schedule = subst (λ (s : List ℕ). IsScheduleOf s b.schedule) text b.fires.says in
    let meant : IsZone (asked a.draft.zone) file b.zone = subst (λ (s : List ℕ). IsZone (asked s) file b.zone) zone b.zone_is in
    let matching = λ (at : DateTime). same_minutes _ a.schedule b.schedule at a.fires.says says in
    let placed = λ (at : DateTime). same_instants (asked a.draft.zone) file a.zone b.zone a.zone_is meant at in
    one_start a.schedule b.schedule a.zone b.zone matching placed (same_clocks (asked a.draft.zone) file a.zone b.zone a.zone_is meant) range.starts xs ys a.answers.0 b.answers.0
