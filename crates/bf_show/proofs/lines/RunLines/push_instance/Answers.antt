use Rattle.std.proofs.Common.{◌≡◌, ℕ, List, ◌++◌, OnOk, string_bytes, decimal, ap, ◌∙◌, subst}
use Rattle.serde_json.specs.Data.{unsigned}
use Rattle.bf_show.specs.JsonLines.{ended_members, instance_members, line}
use Rattle.bf_show.specs.declared.key.Key.TheVariants.{Index}
use Rattle.bf_show.specs.Pieces.{key_text}
use Rattle.bf_show.specs.inner.Pieces.{line_end}
use Rattle.bf_show.proofs.LineFacts.{instance_more}
use Rattle.bf_show.proofs.lines.RunLines.push_instance.Goals as goal

pub returns : goal.returns
returns c =
    let end = line_end (ended_members c.args.instance.now) in
    let whole : string_bytes c.write.new.self ++ end ≡ string_bytes c.args.text.now ++ line (instance_members c.args.self.now.run.now c.args.id.now (unsigned c.args.index) c.args.instance.now) =
    ap (λ t. t ++ end) (c.in_ok-write.ensures.bytes ∙ ap (λ t. t ++ decimal c.args.index) (c.in_ok-push_key.ensures ∙ ap (λ t. t ++ key_text Index) c.in_ok-push_start.ensures))
    ∙ instance_more (string_bytes c.args.text.now) c.args.self.now.run.now c.args.id.now (unsigned c.args.index) c.args.instance.now in
    subst (λ (s : List ℕ). OnOk c.push_ended.result (string_bytes c.push_ended.new.text ≡ s)) whole c.push_ended.ensures
