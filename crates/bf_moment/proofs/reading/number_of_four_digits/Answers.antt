use Rattle.std.proofs.Common.{arith, ◌%◌}
use Rattle.bf_moment.proofs.Spelling.{low_digits}
use Rattle.bf_moment.proofs.reading.number_of_four_digits.Goals as goal

pub returns-in_err-low-clause-none : goal.returns-in_err-low-clause-none
returns-in_err-low-clause-none c =
    rw c.from_residual-in_err-low.ensures (λ n small e. c.in_err-low.ensures.none (n % 100) (omega arith) (low_digits n _ _ _ _ e))
