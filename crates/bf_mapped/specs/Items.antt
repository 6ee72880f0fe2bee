-- The items that a source gives an expansion.
use Rattle.std.specs.Prelude.{Some}
use Rattle.std.specs.List.{filter_map}
use Rattle.bf_value.specs.declared.xval.Xval.TheVariants.{List as ListOf}
use Rattle.bf_value.specs.Views.{xvals_of}
use Rattle.bf_mapped.specs.declared.source.SourceValues.{SourceValues}
use Rattle.bf_mapped.specs.declared.source.SourceValues.TheVariants.{Pushed, Each, Absent}
use Rattle.bf_mapped.specs.declared.source.Items.{Items}

-- an unmapped source gives the list that it pushed, an expanded one what its instances pushed, in index order
abbrev pub items_of : SourceValues → Items
items_of (Pushed (Some (ListOf values))) = Items.List (xvals_of values)
items_of (Pushed _) = Items.Missing
items_of (Each values) = Items.List (filter_map (λ v. v) values)
items_of Absent = Items.Missing
