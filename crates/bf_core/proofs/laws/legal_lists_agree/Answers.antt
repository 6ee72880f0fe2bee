use Rattle.bf_core.proofs.LegalLists.{legal_agrees}
use Rattle.bf_core.proofs.laws.legal_lists_agree.Goals as goal

pub returns : goal.returns
returns c = λ dag sound limits runs events legal ledger holds. legal_agrees dag sound limits runs events legal _ holds
