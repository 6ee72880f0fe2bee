use Rattle.std.proofs.Common.{◌≡◌, ◌∙◌, List, Option, Vec, Global, map, option_map, ap, sym}
use Rattle.std.proofs.lemmas.Result.{IfOk-weaker}
use Rattle.bf_value.specs.declared.xval.Xval.{Xval}
use Rattle.bf_value.specs.declared.xval.Xval.TheVariants.{List as ListOf}
use Rattle.bf_value.specs.Views.{list_of}
use Rattle.bf_journal.specs.Records.{optional_value_of}
use Rattle.bf_journal.specs.inner.Tells.{IsFound}
use Rattle.bf_journal.proofs.Optionals.{found_alike, same_items}
use Rattle.bf_journal.proofs.field.pulled_values_in.Goals as goal

pub returns : goal.returns
returns c =
    let items = c.as_slice.result.now in
    let is : c.args.value.now ≡ list_of items = c.in-List.is ∙ ap ListOf (sym c.as_slice.ensures.plain) in
    let P : List (Option Xval) → Type 0 = λ all. items ≡ map optional_value_of all in
    let Q : List (Option Xval) → Type 0 = λ all. c.args.value.now ≡ list_of (map optional_value_of all) in
    let there : (all : List (Option Xval)) → P all → Q all = λ all same. is ∙ ap list_of same in
    let back : (all : List (Option Xval)) → Q all → P all = λ all same. same_items items (map optional_value_of all) (sym is ∙ same) in
    let found : Option (Vec (Option Xval) Global) → Option (List (Option Xval)) = option_map (λ v. v.items) in
    IfOk-weaker c.pulled_values_of.result (λ o. IsFound P (found o)) (λ o. IsFound Q (found o)) (λ o. found_alike P Q there back (found o)) c.pulled_values_of.ensures
