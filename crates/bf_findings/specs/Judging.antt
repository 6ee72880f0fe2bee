-- What is wrong in the document of a graph file.
use Rattle.std.specs.Prelude.{◌≡◌, ℕ, List, Bool, true, false, Option, Some, None}
use Rattle.jiff.specs.Types.{TimeZone}
use Rattle.serde_json.specs.Data.{Data}
use Rattle.serde_json.specs.Find.{as_str}
use Rattle.bf_cron.specs.declared.spec.CronSpec.{CronSpec}
use Rattle.bf_zone.specs.Zones.{asked, IsZone}
use Rattle.bf_check.specs.Schedules.{Fires}
use Rattle.bf_read.specs.declared.keys.GraphKey.TheVariants as graph
use Rattle.bf_read.specs.declared.keys.TaskKey.TheVariants as key
use Rattle.bf_findings.specs.declared.place.DocumentPlace.{DocumentPlace}
use Rattle.bf_findings.specs.declared.place.DocumentPlace.TheVariants as place
use Rattle.bf_findings.specs.declared.form.Form.{Form}
use Rattle.bf_findings.specs.declared.form.Form.TheVariants.{Schedule, Zone}
use Rattle.bf_findings.specs.Fitting.{text_fits_in, non_text_fits_in}

-- the text says a schedule that some civil minute matches
abbrev pub IsSchedule : List ℕ → Type 0
IsSchedule text = (spec : CronSpec) × Fires text spec

-- the text means a zone, with this zone file
abbrev pub IsZoneText : List ℕ → Option (List ℕ) → Type 0
IsZoneText text file = (zone : TimeZone) × IsZone (asked text) file zone

-- a text may stand where this form may
abbrev pub TextMayStand : Option (List ℕ) → Data → Form → List ℕ → Type 0
TextMayStand file d Schedule text = IsSchedule text
TextMayStand file d Zone text = IsZoneText text file
TextMayStand file d form text = text_fits_in d form text ≡ true

abbrev pub MayStandAs : Option (List ℕ) → Data → Form → Data → Option (List ℕ) → Type 0
MayStandAs file d form value None = non_text_fits_in form value ≡ true
MayStandAs file d form value (Some text) = TextMayStand file d form text

-- a value may stand where this form may
abbrev pub MayStand : Option (List ℕ) → Data → Form → Data → Type 0
MayStand file d form value = MayStandAs file d form value (as_str value)

-- something has to stand at the place
abbrev pub is_required_in : DocumentPlace → Bool
is_required_in (place.Key graph.DagId) = true
is_required_in (place.Key graph.Schedule) = true
is_required_in (place.Key graph.Tasks) = true
is_required_in (place.TaskKey n key.Id) = true
is_required_in other = false

-- what stands at the place may not, or nothing stands where something has to
abbrev pub IsWrong : Option (List ℕ) → Data → DocumentPlace → Form → Option Data → Type 0
IsWrong file d place form None = is_required_in place ≡ true
IsWrong file d place form (Some value) = ¬ (MayStand file d form value)
