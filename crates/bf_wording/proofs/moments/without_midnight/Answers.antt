use Rattle.std.proofs.lemmas.Str.{IsAscii-take}
use Rattle.bf_wording.proofs.moments.without_midnight.Goals as goal

pub returns-then-eq-clause-ascii : goal.returns-then-eq-clause-ascii
returns-then-eq-clause-ascii c = IsAscii-take c.args.moment.now 10 c.requires.ascii
