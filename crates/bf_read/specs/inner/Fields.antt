-- What is read of the members of JSON objects.
use Rattle.std.specs.Prelude.{option_map}
use Rattle.serde_json.specs.View.{view}
use Rattle.bf_read.specs.declared.fields.Field.{Field}
use Rattle.bf_read.specs.Fields.{Member}

abbrev pub member_of : Field → Member
member_of field = record { path = field.path; value = option_map (λ v. view v.now) field.value }
