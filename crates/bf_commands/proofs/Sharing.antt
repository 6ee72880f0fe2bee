-- What is lent to the workers of a backfill that goes on from a report, or from a journal, may be shared by threads.
use denote.Param.Send.{sendable}
use Rattle.std.proofs.Crossing.{crosses}
use Rattle.bf_value.proofs.sequence.Sequence.TheSendSync as sequence
use Rattle.bf_plan.proofs.plan.Plan.TheSendSync as plan
use Rattle.bf_dependents.proofs.found.Followers.TheSendSync as followers
use Rattle.bf_clear.proofs.Sharing as sharing

pub ruleset shared = (sendable, crosses, sequence.the_sync, plan.the_sync, followers.the_sync, sharing.cleared)
