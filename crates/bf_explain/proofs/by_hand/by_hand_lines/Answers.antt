use Rattle.std.proofs.Common.{◌≡◌, ℤ, rules, SFits, w32, true, map, Option, sym, ap, ◌∙◌, subst}
use Rattle.std.specs.Option.{option_copied}
use Rattle.std.proofs.lemmas.Int.{to_z-of_z}
use Rattle.std.proofs.lemmas.Result.{IfOk-weaker}
use Rattle.bf_core.specs.Terms.{task_of}
use Rattle.bf_report.specs.declared.report.InstanceReport.{InstanceReport}
use Rattle.bf_explain.specs.ByHand.{AreHandLines, IsHandLine, tells_words_in}
use Rattle.bf_explain.proofs.HandFacts.{line_if}
use Rattle.bf_explain.proofs.by_hand.by_hand_lines.Goals as goal

pub returns : goal.returns
returns c =
    let dag = c.args.plan.now.dag in let interval = c.args.report.now.interval in
    let clocks = map (λ clock. clock.at.nanosecond) c.args.clocks.now in
    let instance = c.in-Some.instance.now in
    let told : tells_words_in c.args.version instance (task_of dag c.args.task).command ≡ true = sym c.is_command_told.ensures ∙ c.if-not-is_command_told.false in
    let fits : SFits w32 c.args.index = search rules in
    let line : IsHandLine dag interval clocks c.args.run c.args.task c.args.index instance c.in_ok-by_hand_line.field-0 =
    subst (λ (n : ℤ). IsHandLine dag interval clocks c.args.run c.args.task n instance c.in_ok-by_hand_line.field-0) (to_z-of_z w32 c.args.index fits) c.in_ok-by_hand_line.ensures in
    IfOk-weaker c.one_line.result _ _
    (λ lines is. subst (λ (i : Option InstanceReport). AreHandLines dag interval c.args.version clocks c.args.run c.args.task c.args.index i lines.items) (sym (ap option_copied c.in-Some.is))
    (line_if _ (IsHandLine dag interval clocks c.args.run c.args.task c.args.index instance) c.in_ok-by_hand_line.field-0 lines.items told line is)) c.one_line.ensures
