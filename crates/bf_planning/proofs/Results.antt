-- What a function's result has by that of a function that it calls.
use Rattle.std.proofs.Common.{◌≡◌, Result, Ok, Err, IfErr, sym, subst}
use Rattle.std.specs.Result.{IsErrAnd}

-- what holds of a fault holds of the result by which a `?` hands it on
pub handed_on : {A E : Type 0} {fault : E} (P : E → Type 0) (r : Result A E) → IsErrAnd r (λ e. e ≡ fault) → P fault → IfErr r P
handed_on P (Ok x) same is = absurd same
handed_on P (Err e) same is = subst P (sym same) is
