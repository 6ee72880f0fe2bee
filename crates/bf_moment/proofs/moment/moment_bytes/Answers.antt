use Rattle.std.proofs.Common.{◌∙◌, sym, arith, ◌≡◌}
use Rattle.jiff_core.proofs.SignedLemmas.{signed_arith}
use Rattle.jiff_core.specs.DateTime.{civil_nanos}
use Rattle.bf_moment.proofs.MomentFacts.{shown_date, moment_text_of_clock}
use Rattle.bf_moment.proofs.moment.moment_bytes.Goals as goal

pub clock_bytes-requires : goal.clock_bytes-requires
clock_bytes-requires c = shown_date c.to_datetime.result c.args.at.nanosecond (omega (arith, signed_arith, c.to_datetime.ensures)) c.requires

pub returns-clause-text : goal.returns-clause-text
returns-clause-text c =
    let e : civil_nanos c.to_datetime.result ≡ c.args.at.nanosecond = omega (arith, signed_arith, c.to_datetime.ensures) in
    c.clock_bytes.ensures.text ∙ sym (moment_text_of_clock c.to_datetime.result c.args.at.nanosecond e (shown_date _ _ e c.requires))
