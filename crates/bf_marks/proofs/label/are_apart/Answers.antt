use Rattle.std.proofs.Common.{◌∷◌, ◌&&◌, ◌+◌, drop, sym, ap, ◌∙◌}
use Rattle.bf_marks.specs.Labels.{are_apart_in, seconds_of}
use Rattle.bf_marks.proofs.LabelFacts.{moments, apart_more}
use Rattle.bf_marks.proofs.label.are_apart.Goals as goal

pub loop-start-preserved : goal.loop-start-preserved
loop-start-preserved c =
    let least = seconds_of c.args.seconds in
    let rest = c.in-Some.rest.now in
    let i = c.loop-start.start-index in
    let start = c.start-item.result in
    c.loop-start.invariant ∙ apart_more least c.loop-start.before.at.nanosecond rest i start c.loop-start-test.true c.start-item.is
    ∙ ap (λ behind. behind && are_apart_in least (start.at.nanosecond ∷ moments (drop (i + 1) rest))) (sym c.if-not-is_later_by.ensures)
