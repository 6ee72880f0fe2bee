use Rattle.bf_cron.proofs.Rules.{matches_is}
use Rattle.bf_cron.proofs.matching.schedule_matches.Goals as goal

pub returns-then-has_hour-clause-rule : goal.returns-then-has_hour-clause-rule
returns-then-has_hour-clause-rule c = λ s keeps. matches_is c.args.spec.now s c.args.at keeps

pub returns-else-has_hour-clause-rule : goal.returns-else-has_hour-clause-rule
returns-else-has_hour-clause-rule c = λ s keeps. matches_is c.args.spec.now s c.args.at keeps
