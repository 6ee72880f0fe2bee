-- Why a rule says so, as it is kept and as it is told.
use Rattle.std.proofs.Common.{◌≡◌, ℕ, List, Bor, ap}
use Rattle.bf_core.specs.Terms.{Dag}
use Rattle.bf_report.specs.declared.report.TaskReport.{TaskReport}
use Rattle.bf_why.specs.declared.since.Ground.{Ground}
use Rattle.bf_why.specs.declared.states.States.{States}
use Rattle.bf_why.specs.inner.Grounds.{IsGround}
use Rattle.bf_why.specs.Since.{Since, because_of_states, since_text_of, words}

module _ (dag : Dag) (tasks : List TaskReport) (task : ℕ) where
  pub since_said : (ground : Since) (said : Bor (List ℕ)) → IsGround ground (Ground.Words said) → said.now ≡ since_text_of dag tasks task ground
  since_said (words text) said is = is
  since_said (because_of_states states) said is = absurd is

  pub since_states : (ground : Since) (states : States) → IsGround ground (Ground.States states) → since_text_of dag tasks task (because_of_states states) ≡ since_text_of dag tasks task ground
  since_states (words text) states is = absurd is
  since_states (because_of_states these) states is = ap (λ s. since_text_of dag tasks task (because_of_states s)) is
