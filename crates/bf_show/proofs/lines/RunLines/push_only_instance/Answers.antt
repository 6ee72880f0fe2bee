use Rattle.std.proofs.Common.{◌≡◌, ℕ, List, ◌++◌, OnOk, string_bytes, ap, ◌∙◌, subst}
use Rattle.bf_show.specs.JsonLines.{ended_members, instance_members, line, no_index}
use Rattle.bf_show.specs.inner.Pieces.{line_end}
use Rattle.bf_show.proofs.LineFacts.{only_more}
use Rattle.bf_show.proofs.lines.RunLines.push_only_instance.Goals as goal

pub returns : goal.returns
returns c =
    let end = line_end (ended_members c.args.instance.now) in
    let whole : string_bytes c.push_only_start.new.text ++ end ≡ string_bytes c.args.text.now ++ line (instance_members c.args.self.now.run.now c.args.id.now no_index c.args.instance.now) =
    ap (λ t. t ++ end) c.in_ok-push_only_start.ensures
    ∙ only_more (string_bytes c.args.text.now) c.args.self.now.run.now c.args.id.now c.args.instance.now in
    subst (λ (s : List ℕ). OnOk c.push_ended.result (string_bytes c.push_ended.new.text ≡ s)) whole c.push_ended.ensures
