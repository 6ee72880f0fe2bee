-- What is wrong with a line's words, by the kinds of its errors.
use Rattle.std.proofs.Common.{◌≡◌, sym, subst, inl, inr, List, Option, Some, false, bytes_eq, if◌then◌else◌, Bool, [], ◌∷◌}
use Rattle.std.specs.List.{list_any}
use Rattle.clap.specs.Kinds.{or_else}
use Rattle.clap.specs.Words.{HasKind, Kinds, Text, kind_of}
use Rattle.clap.specs.declared.error.Error.{Error}
use Rattle.clap.specs.declared.error.kind.ErrorKind.TheVariants.{InvalidValue}
use Rattle.bf_command_line.specs.Wrongs.{value_wrongs}

-- a value that is none of the possible words
pub unlisted : (words : List Text) (found : Option Text) (value : Text) (error : Error) → found ≡ Some value → list_any (bytes_eq value) words ≡ false → kind_of error ≡ InvalidValue → HasKind (value_wrongs words found) error
unlisted words found value error is none invalid = subst (λ f. HasKind (value_wrongs words f) error) (sym is)
    (subst (λ (b : Bool). HasKind (if b then [] else InvalidValue ∷ []) error) (sym none) (inr (inl invalid)))

-- what comes first stays
pub of_first : (first next : Kinds) (error : Error) → HasKind first error → HasKind (or_else first next) error
of_first [] next error (inl memory) = inl memory
of_first [] next error (inr none) = absurd none
of_first (kind ∷ kinds) next error has = has
