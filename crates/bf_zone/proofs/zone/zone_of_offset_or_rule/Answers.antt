use Rattle.std.proofs.Common.{◌∙◌, ap, subst, refl}
use Rattle.jiff.specs.Words.{plain_zone}
use Rattle.bf_zone.specs.Offsets.{offset_of}
use Rattle.bf_zone.specs.Zones.{Asked, IsZone, offset_or_rule}
use Rattle.bf_zone.proofs.zone.zone_of_offset_or_rule.Goals as goal

pub returns-in-Some-clause-some : goal.returns-in-Some-clause-some
returns-in-Some-clause-some c = λ file.
    let o = c.in-Some.offset in
    let P : Asked → Type 0 = λ a. IsZone a file (plain_zone c.fixed.result) in
    let e = c.in-Some.ensures ∙ ap offset_of c.as_bytes.ensures.value in
    subst P (ap (λ r. offset_or_rule r c.args.text.now) e) (o, refl, c.fixed.ensures)
