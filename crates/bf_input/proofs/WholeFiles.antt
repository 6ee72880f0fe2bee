-- What is read of a file says what the file says.
use Rattle.std.proofs.Common.{◌≡◌, ◌<◌, ◌≤◌, ◌+◌, ℕ, List, length, Option, Some, None, IfSome, Err, ◌∙◌, refl, sym, ap, subst, inl, inr, arith}
use Rattle.std.proofs.lemmas.Bool.{lt-leb}
use Rattle.std.proofs.lemmas.Bool.Decides.{leb_tells}
use Rattle.std.proofs.lemmas.List.{length-take-le, take_all}
use Rattle.jiff.specs.Types.{TimeZone, Tzif}
use Rattle.bf_zone.specs.Zones.{Asked, IsFileZone, IsZone}
use Rattle.bf_disk.specs.Files.{Files, IsHeld, IsHeldIfNamed}
use Rattle.bf_disk.specs.Source.{IsWholeUpTo}
use Rattle.bf_read.specs.declared.fault.ReadFault.{ReadFault}
use Rattle.bf_read.specs.declared.path.Path.{Path}
use Rattle.bf_read.specs.Fields.{refuse_beyond_limit_of}
use Rattle.bf_read.specs.Reading.{graph_in}
use Rattle.bf_input.specs.Inputs.{IsWholeGraph, MeanAlike}
use Rattle.bf_table.specs.declared.table.TableFault.{TableFault}
use Rattle.bf_table.specs.Tables.{json_of_file, table_in}

-- ---- how much is read of a file

-- all of one that isn't too long
whole_read : (longest : ℕ) (held bytes : List ℕ) → IsWholeUpTo longest (Some held) bytes → length held ≤ longest → bytes ≡ held
whole_read longest held bytes read short = read ∙ take_all (longest + 1) held (omega (arith, short))

-- too many bytes of one that is
long_read : (longest : ℕ) (held bytes : List ℕ) → IsWholeUpTo longest (Some held) bytes → longest < length held → longest < length bytes
long_read longest held bytes read long =
    let count : length bytes ≡ longest + 1 = ap length read ∙ length-take-le (longest + 1) held (omega (arith, long)) in
    omega (arith, count)

-- where not too many are read, all are
pub all_read : (longest : ℕ) (held bytes : List ℕ) → IsWholeUpTo longest (Some held) bytes → length bytes ≤ longest → bytes ≡ held
all_read longest held bytes read few =
    elim (leb_tells (length held) longest) [ inl short ↦ whole_read longest held bytes read short.1 | inr long ↦ let more = long_read longest held bytes read long.1 in absurd (omega (arith, more, few)) ]

-- ---- what is read of a file that is longer than it may be says what the whole file says

-- the file is read whole, or what is read and the file are both too long, which is one fault
module _ {A : Type 0} (longest : ℕ) (says : List ℕ → A) (fault : A) (too_long : (bytes : List ℕ) → longest < length bytes → says bytes ≡ fault) where
  same_by : (held bytes : List ℕ) → IsWholeUpTo longest (Some held) bytes → says bytes ≡ says held
  same_by held bytes read = elim (leb_tells (length held) longest) [ inl short ↦ ap says (whole_read longest held bytes read short.1) | inr long ↦ too_long bytes (long_read longest held bytes read long.1) ∙ sym (too_long held long.1) ]

long_graph : (bytes : List ℕ) → 8_388_608 < length bytes → graph_in bytes ≡ Err (ReadFault.LimitPassed Path.Bytes)
unfolding graph_in refuse_beyond_limit_of
long_graph bytes long = rw (lt-leb (length bytes) 8_388_608 long) refl

pub same_graph : (held bytes : List ℕ) → IsWholeUpTo 8_388_608 (Some held) bytes → graph_in bytes ≡ graph_in held
same_graph held bytes read = same_by 8_388_608 graph_in _ long_graph held bytes read

pub whole_graph : (held bytes : List ℕ) → IsWholeUpTo 8_388_608 (Some held) bytes → IsWholeGraph held bytes
whole_graph held bytes read file says =
    elim (leb_tells (length held) 8_388_608) [ inl short ↦ whole_read 8_388_608 held bytes read short.1 | inr long ↦ let refused = long_graph held long.1 in absurd (cc) ]

long_table : (bytes : List ℕ) → 8_388_608 < length bytes → table_in bytes ≡ Err (TableFault.BadTable None)
unfolding table_in json_of_file
long_table bytes long = rw (lt-leb (length bytes) 8_388_608 long) refl

pub same_table : (held bytes : List ℕ) → IsWholeUpTo 8_388_608 (Some held) bytes → table_in bytes ≡ table_in held
same_table held bytes read = same_by 8_388_608 table_in _ long_table held bytes read

-- what is read of a file that is told
pub read_of : (longest : ℕ) (file : Option (Option (List ℕ))) (held bytes : List ℕ) → IsHeld file held → IfSome file (λ found. IsWholeUpTo longest found bytes) → IsWholeUpTo longest (Some held) bytes
read_of longest file held bytes told read = subst (λ (o : Option (Option (List ℕ))). IfSome o (λ found. IsWholeUpTo longest found bytes)) told read

-- ---- zone files

file_zone : (held bytes : List ℕ) → IsWholeUpTo 1_048_576 (Some held) bytes → (z : TimeZone) → IsFileZone bytes z → IsFileZone held z
file_zone held bytes read (Tzif z) is = subst (λ (bs : List ℕ). IsFileZone bs (Tzif z)) (all_read 1_048_576 held bytes read is.0) is
file_zone held bytes read _ is = absurd is

file_zone_back : (held bytes : List ℕ) → IsWholeUpTo 1_048_576 (Some held) bytes → (z : TimeZone) → IsFileZone held z → IsFileZone bytes z
file_zone_back held bytes read (Tzif z) is = subst (λ (bs : List ℕ). IsFileZone bs (Tzif z)) (sym (whole_read 1_048_576 held bytes read is.0)) is
file_zone_back held bytes read _ is = absurd is

same_zone : (held bytes : List ℕ) → IsWholeUpTo 1_048_576 (Some held) bytes → MeanAlike (Some bytes) (Some held)
same_zone held bytes read = record { to = to; back = back }
  where
    to : (zone : Asked) (z : TimeZone) → IsZone zone (Some bytes) z → IsZone zone (Some held) z
    to Asked.utc z is = is
    to (Asked.offset n) z is = is
    to (Asked.rule text) z is = is
    to Asked.file_asked z is = file_zone held bytes read z is

    back : (zone : Asked) (z : TimeZone) → IsZone zone (Some held) z → IsZone zone (Some bytes) z
    back Asked.utc z is = is
    back (Asked.offset n) z is = is
    back (Asked.rule text) z is = is
    back Asked.file_asked z is = file_zone_back held bytes read z is

pub zone_alike : (files : Files) (path bytes : List ℕ) → IfSome (files path) (λ found. IsWholeUpTo 1_048_576 found bytes) → (held : Option (List ℕ)) → IsHeldIfNamed files (Some path) held → MeanAlike (Some bytes) held
zone_alike files path bytes read None told = absurd told
zone_alike files path bytes read (Some held) told = same_zone held bytes (read_of 1_048_576 (files path) held bytes told read)
