-- What the schedule and the zone of a graph file have to be.
use Rattle.std.specs.Prelude.{ℕ, List, Option, Ok, Err}
use Rattle.bf_read.specs.declared.draft.Draft.{Draft}
use Rattle.bf_cron.specs.Cron.{schedule_of, IsRead}
use Rattle.bf_cron.specs.Minutes.{NeverFires}
use Rattle.bf_cron.specs.declared.spec.CronSpec.{CronSpec}
use Rattle.bf_zone.specs.Zones.{asked, IsZoneRead}
use Rattle.bf_zone.specs.declared.zone.Zone.{Zone}
use Rattle.bf_zone.specs.declared.zone.ZoneFault.{ZoneFault}

-- the text says this schedule
abbrev pub IsScheduleOf : List ℕ → CronSpec → Type 0
IsScheduleOf text spec = IsRead (schedule_of text) (Ok spec)

-- the text says this schedule, and some civil minute matches it
pub record Fires (text : List ℕ) (spec : CronSpec) : Type 0 where
  pub says : IsScheduleOf text spec
  pub fires : ¬ (NeverFires spec)

-- the text says a schedule that no civil minute matches
pub record NeverFiresIn (text : List ℕ) : Type 0 where
  pub spec : CronSpec
  pub says : IsScheduleOf text spec
  pub never : NeverFires spec

-- the zone is what the text means, with this zone file
abbrev pub IsZoneFor : List ℕ → Option (List ℕ) → Zone → Type 0
IsZoneFor text file zone = IsZoneRead (asked text) file (Ok zone)

-- the text means no zone, with this zone file
abbrev pub IsNoZone : List ℕ → Option (List ℕ) → Type 0
IsNoZone text file = IsZoneRead (asked text) file (Err ZoneFault.Bad)

-- the schedule of a draft fires, and its zone is there
pub record IsScheduled (draft : Draft) (file : Option (List ℕ)) : Type 0 where
  pub spec : CronSpec
  pub fires : Fires draft.schedule spec
  pub zone : Zone
  pub zone_is : IsZoneFor draft.zone file zone
