use Rattle.std.proofs.Common.{List, Bool, sym, subst}
use Rattle.bf_dependents.specs.inner.Marks.{AreTouched}
use Rattle.bf_dependents.proofs.Lookups.{found_right, if_both}
use Rattle.bf_dependents.proofs.found.dependents.Goals as goal

pub returns : goal.returns
returns c =
    let dag = c.args.plan.now.dag in
    if_both c.new.result _ _ _
    (λ all touched held. found_right dag c.dag-sound.ensures.sound c.args.seeds.now c.args.runs all
    (subst (λ (rows : List (List Bool)). AreTouched dag c.args.seeds.now c.args.runs rows) (sym touched) c.in_ok-touched.ensures) held)
    c.new.ensures.touched c.new.ensures.seeds
