use Rattle.std.proofs.Common.{option_map}
use Rattle.jiff.specs.Words.{plain_zone}
use Rattle.bf_zone.proofs.Texts.{other_meant, meant_other}
use Rattle.bf_zone.proofs.zone.Zone.read.Goals as goal

pub returns-in-Some-zone_of_offset_or_rule : goal.returns-in-Some-zone_of_offset_or_rule
returns-in-Some-zone_of_offset_or_rule c = λ z is.
    let bytes = option_map (λ s. s.now) c.args.file in
    other_meant c.args.text.now bytes (plain_zone c.in-Some-zone_of_offset_or_rule.zone) z c.in_default.not-UTC c.in_default.not-file (c.in-Some-zone_of_offset_or_rule.ensures.some bytes) is

pub returns-in-None-zone_of_offset_or_rule : goal.returns-in-None-zone_of_offset_or_rule
returns-in-None-zone_of_offset_or_rule c = λ z is.
    let bytes = option_map (λ s. s.now) c.args.file in
    c.in-None-zone_of_offset_or_rule.ensures.none bytes z (meant_other c.args.text.now bytes z c.in_default.not-UTC c.in_default.not-file is)
