-- What is lent to the workers of a backfill that goes on from a journal may be shared by threads.
use denote.Param.Send.{IsSend, IsSync, sendable, struct_sync, recorded_sync, view_sync}
use denote.RattleType.{RattleType}
use denote.Ref.{NamedLft}
use denote.Struct.Declared as declared
use Rattle.std.proofs.Crossing.{crosses}
use Rattle.std.proofs.MapsCrossing as maps
use Rattle.bf_value.proofs.xval.Values.TheLaws.TheKnot as xval
use Rattle.bf_plan.proofs.plan.Plan.TheSendSync as plan
use Rattle.bf_xcom.specs.contracts.shared_given.Shared as Shared
use Rattle.bf_xcom.specs.contracts.shared_given.SharedGiven as SharedGiven
use Rattle.bf_xcom.specs.contracts.shared_given.SharedGiven.TheInside as Inside
use Rattle.bf_xcom.specs.contracts.shared_value.SharedValue as SharedValue
use Rattle.bf_xcom.specs.contracts.values.Given as Given
use Rattle.bf_try.specs.contracts.ledger.Entry as Entry
use Rattle.bf_try.specs.contracts.ledger.Ledger as Ledger
use Rattle.bf_journal.specs.contracts.since.Since as Since

-- `search` spends its steps on an entry as a whole, so it is shown part by part
value_send : IsSend SharedValue.the_row
value_send = search (sendable, crosses, xval.crosses) depth 40 fits 20000

value : IsSync SharedValue.the_row
value = search (sendable, crosses, xval.crosses) depth 40 fits 20000

given_send : IsSend Given.the_row
given_send = search (sendable, crosses, xval.crosses, value_send) depth 40 fits 20000

given : IsSync Given.the_row
given = search (sendable, crosses, xval.crosses, value) depth 40 fits 20000

how_shared : IsSync (Shared.the_field).row
how_shared = search (sendable, crosses, xval.crosses, given_send, given) depth 40 fits 20000

inside : IsSync Inside.the_row
inside = recorded_sync _ _ _ (Inside.the_type.to_one)
    (struct_sync (declared.shape Inside.the_type) (how_shared, tt))

shared : IsSync SharedGiven.the_row
shared = view_sync _ _ _ _ _ inside

entry : IsSync Entry.the_row
entry = search (sendable, crosses, value, shared) depth 40 fits 20000

pub ledger : IsSync Ledger.the_row
ledger = search (sendable, crosses, maps.crosses, entry) depth 40 fits 20000

pub since : (κ : NamedLft) (K : RattleType) → IsSync K → IsSync (Since.the_row κ K)
since κ K shared = recorded_sync _ _ _ ((Since.the_type κ K).to_one)
    (struct_sync (declared.shape (Since.the_type κ K)) (search (sendable, plan.the_sync), (search (sendable, ledger), (search sendable, (search (sendable, shared), tt)))))
