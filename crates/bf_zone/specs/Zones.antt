-- The zone that a text means.
use Rattle.std.specs.Prelude.{◌≡◌, ◌≤◌, ℕ, ℤ, List, length, Option, Some, None, Result, Ok, Err, IsOk, codes, if◌then◌else◌}
use Rattle.std.specs.Str.{bytes_eq}
use Rattle.jiff.specs.Types.{TimeZone, Offset, UTC, Tzif}
use Rattle.jiff.specs.ZoneView.{plain_zone}
use Rattle.jiff.specs.Placed.{fixed_zone, IsPosixZone}
use Rattle.jiff_tz.specs.TzifReader.{read_tzif}
use Rattle.jiff_tz.specs.Tzif.{tzif_view, RuleAgrees}
use Rattle.bf_zone.specs.Offsets.{offset_of}
use Rattle.bf_zone.specs.declared.zone.Zone.{Zone}
use Rattle.bf_zone.specs.declared.zone.Zone.TheVariants.{Rule, Table}
use Rattle.bf_zone.specs.declared.zone.ZoneFault.{ZoneFault}
use Rattle.bf_zone.specs.declared.zone.ZoneFault.TheVariants.{Bad, OutOfMemory}

-- what the text of a zone asks for
pub data Asked : Type 0 where
  utc : Asked
  offset : ℤ → Asked
  file_asked : Asked
  rule : List ℕ → Asked

-- an offset's seconds, or a rule
abbrev pub offset_or_rule : Option ℤ → List ℕ → Asked
offset_or_rule None text = rule text
offset_or_rule (Some n) text = offset n

-- `UTC`, `file`, an offset, or else a rule
abbrev pub asked : List ℕ → Asked
asked text =
    if bytes_eq text (codes "UTC") then utc
    else (if bytes_eq text (codes "file") then file_asked else offset_or_rule (offset_of text) text)

-- the zone of a file: the table that the bytes are read as, with a rule that agrees with its last row
abbrev pub IsFileZone : List ℕ → TimeZone → Type 0
IsFileZone bytes (Tzif z) =
    (length bytes ≤ 1_048_576) × (read_tzif bytes ≡ Ok (tzif_view z.now)) × RuleAgrees z.now
IsFileZone bytes zone = ⊥

-- the zone is one that the text and the file's bytes mean
abbrev pub IsZone : Asked → Option (List ℕ) → TimeZone → Type 0
IsZone utc bytes zone = zone ≡ UTC
IsZone (offset n) bytes zone = (o : Offset) × (o.seconds ≡ n) × (zone ≡ fixed_zone o)
IsZone (rule text) bytes zone = IsPosixZone text zone
IsZone file None zone = ⊥
IsZone file (Some bytes) zone = IsFileZone bytes zone

-- the zone that a value lends
abbrev pub IsZoneOf : Zone → TimeZone → Type 0
IsZoneOf (Rule tz) zone = zone ≡ plain_zone tz
IsZoneOf (Table t) (Tzif z) = z.now ≡ t
IsZoneOf (Table t) zone = ⊥

-- the bytes of a zone file that can be read, and isn't too long
abbrev pub TakesMemory : Asked → Option (List ℕ) → Type 0
TakesMemory file (Some bytes) = (length bytes ≤ 1_048_576) × IsOk (read_tzif bytes)
TakesMemory other bytes = ⊥

-- what was read lends a zone that is meant, or no zone is meant, or memory ran out
abbrev pub IsZoneRead : Asked → Option (List ℕ) → Result Zone ZoneFault → Type 0
IsZoneRead asked bytes (Ok zone) = (z : TimeZone) → IsZoneOf zone z → IsZone asked bytes z
IsZoneRead asked bytes (Err Bad) = (z : TimeZone) → IsZone asked bytes z → ⊥
IsZoneRead asked bytes (Err OutOfMemory) = TakesMemory asked bytes
