-- What is wrong at a place of a document, as it is told.
use Rattle.std.specs.Prelude.{◌≡◌, ◌≤◌, ℕ, Bool, false, List, [], ◌∷◌, ◌++◌, length, map, All, nat_le, codes, if◌then◌else◌, Option, Some, None, option_and_then, option_map}
use Rattle.std.specs.Str.{bytes_eq}
use Rattle.serde_json.specs.Data.{Data}
use Rattle.serde_json.specs.Find.{as_str}
use Rattle.bf_findings.specs.declared.place.DocumentPlace.{DocumentPlace}
use Rattle.bf_findings.specs.declared.place.DocumentPlace.TheVariants as place
use Rattle.bf_findings.specs.declared.form.Form.{Form}
use Rattle.bf_findings.specs.declared.form.Form.TheVariants.{Schedule, Zone}
use Rattle.bf_findings.specs.declared.hint.Hint.{Hint}
use Rattle.bf_findings.specs.declared.hint.Hint.TheVariants.{Meant, NoZoneFile, BadField}
use Rattle.bf_cron.specs.BadField.{bad_field_of}
use Rattle.bf_findings.specs.declared.finding.Fault.{Fault}
use Rattle.bf_findings.specs.Places.{value_in}
use Rattle.bf_findings.specs.Forms.{form_in}
use Rattle.bf_findings.specs.Judging.{IsWrong}
use Rattle.bf_findings.specs.Shown.{shown_in}
use Rattle.bf_findings.specs.Names.{meant_name_of, names_of}
use Rattle.bf_findings.specs.Nearest.{lowered, IsSuggested}

-- what stands at a place
abbrev pub told_value_in : DocumentPlace → Option Data → List ℕ
told_value_in place None = codes "missing"
told_value_in place (Some d) = shown_in place d

-- a text that is no longer than an id may be
abbrev pub of_length_of_id : List ℕ → Option (List ℕ)
of_length_of_id text = if nat_le (length text) 250 then Some text else None

-- the text that stands at a place, if one does
abbrev pub text_in : Option Data → Option (List ℕ)
text_in d = option_and_then as_str d

-- the text at a place for which a name is sought: an unknown key, or what stands there
abbrev pub sought_text_in : DocumentPlace → Option Data → Option (List ℕ)
sought_text_in (place.OtherKey key) d = of_length_of_id key
sought_text_in (place.OtherTaskKey n key) d = of_length_of_id key
sought_text_in _ d = option_and_then of_length_of_id (text_in d)

abbrev pub IsSuggestionBy : Option (List ℕ) → Data → Form → List ℕ → Option (List ℕ) → Type 0
IsSuggestionBy (Some name) d form text suggestion = suggestion ≡ Some name
IsSuggestionBy None d form text suggestion = IsSuggested text (names_of d form) suggestion

-- what is meant by the text, in whichever case; else the nearest known name, where it is near
abbrev pub IsSuggestion : Data → Form → List ℕ → Option (List ℕ) → Type 0
IsSuggestion d form text suggestion =
    IsSuggestionBy (meant_name_of form (lowered text)) d form text suggestion

abbrev pub IsSuggestionFor : Data → Form → Option (List ℕ) → Option (List ℕ) → Type 0
IsSuggestionFor d form None suggestion = suggestion ≡ None
IsSuggestionFor d form (Some text) suggestion = IsSuggestion d form text suggestion

-- of a zone `file` that may not stand there: that no zone file is named
abbrev pub zone_hint : Option (List ℕ) → Option Hint
zone_hint None = Some NoZoneFile
zone_hint (Some file) = None

-- what is told where no name is suggested: of a schedule the first of its five fields that says nothing
abbrev pub other_hint : Form → Option (List ℕ) → Option Hint
other_hint Schedule (Some text) = option_map BadField (bad_field_of text)
other_hint form text = None

abbrev pub hint_with : Form → Option (List ℕ) → Option (List ℕ) → Option Hint
hint_with form text (Some name) = Some (Meant name)
hint_with form text None = other_hint form text

-- the form is that of zones, and the text is `file`
abbrev pub is_file_zone : Form → Option (List ℕ) → Bool
is_file_zone Zone (Some text) = bytes_eq text (codes "file")
is_file_zone form text = false

-- what is told in place of what may stand there, if anything, where a name is suggested or none is
abbrev pub hint_in : Option (List ℕ) → Form → Option (List ℕ) → Option (List ℕ) → Option Hint
hint_in file form text suggestion =
    if is_file_zone form text then zone_hint file else hint_with form text suggestion

-- a hint for what stands at a place, of which this text is sought
abbrev pub IsHint : Option (List ℕ) → Data → Form → Option (List ℕ) → Option (List ℕ)
    → Option Hint → Type 0
IsHint file d form sought text hint =
    (suggestion : Option (List ℕ)) × IsSuggestionFor d form sought suggestion
    × (hint ≡ hint_in file form text suggestion)

-- what is wrong at a place of the document, with this zone file: what stands there may not, or is missing
pub record IsFault (file : Option (List ℕ)) (d : Data) (fault : Fault) : Type 0 where
  pub form_is : fault.form ≡ form_in d fault.place
  pub wrong : IsWrong file d fault.place fault.form (value_in d fault.place)
  pub stands_is : fault.stands ≡ told_value_in fault.place (value_in d fault.place)
  pub hint_is : IsHint file d fault.form (sought_text_in fault.place (value_in d fault.place))
      (text_in (value_in d fault.place)) fault.hint

-- ---- all that is wrong

-- something is wrong at the place
abbrev pub IsWrongAt : Option (List ℕ) → Data → DocumentPlace → Type 0
IsWrongAt file d place = IsWrong file d place (form_in d place) (value_in d place)

-- those of some places at which something is wrong, in their order
pub data AreWrongOf (Wrong : DocumentPlace → Type 0) : List DocumentPlace → List DocumentPlace
    → Type 0 where
  at_none : AreWrongOf Wrong [] []
  past_right : (places told : List DocumentPlace) (place : DocumentPlace)
      → AreWrongOf Wrong places told → ¬ (Wrong place) → AreWrongOf Wrong (places ++ place ∷ []) told
  past_wrong : (places told : List DocumentPlace) (place : DocumentPlace)
      → AreWrongOf Wrong places told → Wrong place
      → AreWrongOf Wrong (places ++ place ∷ []) (told ++ place ∷ [])

-- the first of them: all, or a hundred and one
pub record AreFirstWrong (Wrong : DocumentPlace → Type 0)
    (places told : List DocumentPlace) : Type 0 where
  pub seen : List DocumentPlace
  pub unseen : List DocumentPlace
  pub parts : places ≡ seen ++ unseen
  pub are_wrong : AreWrongOf Wrong seen told
  pub few : length told ≤ 101
  pub all : length told ≤ 100 → unseen ≡ []

-- what is wrong at some places of a document, with this zone file: all of it, or the first hundred and one faults
pub record AreFaults (file : Option (List ℕ)) (d : Data) (places : List DocumentPlace)
    (faults : List Fault) : Type 0 where
  pub each : All (IsFault file d) faults
  pub first : AreFirstWrong (IsWrongAt file d) places (map (λ fault. fault.place) faults)
