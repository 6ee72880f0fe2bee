use Rattle.std.proofs.Common.{◌≡◌, ◌&&◌, ◌∙◌, sym, ap, w32, to_z, of_z}
use Rattle.std.proofs.lemmas.Int.{to_z-of_z}
use Rattle.bf_dependents.specs.Dependents.{is_led_to_in}
use Rattle.bf_dependents.proofs.found.Followers.has_instance.Goals as goal

pub returns-then-has_task : goal.returns-then-has_task
returns-then-has_task c =
    let index : to_z w32 (of_z w32 c.args.index) ≡ c.args.index = to_z-of_z w32 c.args.index c.ranges.index in
    c.follows_if_touched.ensures
    ∙ (ap (is_led_to_in c.args.dag.now c.args.self.now c.args.run c.args.task) index
    ∙ sym (ap (λ b. b && is_led_to_in c.args.dag.now c.args.self.now c.args.run c.args.task c.args.index) (sym c.has_task.ensures ∙ c.if-has_task.true)))
