use Rattle.std.proofs.Common.{false, inl, inr, true}
use Rattle.bf_core.specs.declared.event.Event.{Event}
use Rattle.bf_waiting.proofs.Each.{none_over}
use Rattle.bf_waiting.proofs.waiting.Waiting.on_event.Goals as goal

pub returns-in-Open : goal.returns-in-Open
returns-in-Open c = elim c.in-Open.is [
  | inl e ↦ rw e (none_over c.args.self.now.weights.items c.args.self.now.class_of.items c.args.self.now.classes.items Event.Open c.args.core.now tt (λ u of. of))
  | inr e ↦ rw e.1 (none_over c.args.self.now.weights.items c.args.self.now.class_of.items c.args.self.now.classes.items (Event.Close e.0) c.args.core.now tt (λ u of. of))
]

pub returns-in-Open-2 : goal.returns-in-Open-2
returns-in-Open-2 c = elim c.in-Open.is [
  | inl e ↦ rw e (none_over c.args.self.now.weights.items c.args.self.now.class_of.items c.args.self.now.classes.items Event.Open c.args.core.now tt (λ u of. of))
  | inr e ↦ rw e.1 (none_over c.args.self.now.weights.items c.args.self.now.class_of.items c.args.self.now.classes.items (Event.Close e.0) c.args.core.now tt (λ u of. of))
]

pub returns-in-Settle : goal.returns-in-Settle
returns-in-Settle c = elim c.in-Settle.is [ inl e ↦ rw e (c.on_decision.ensures false) | inr e ↦ rw e (c.on_decision.ensures true) ]
