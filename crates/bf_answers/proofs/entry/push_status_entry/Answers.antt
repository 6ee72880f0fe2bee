use Rattle.std.proofs.Common.{◌++◌, ◌∷◌, string_bytes, codes, decimal, sym, ap, ◌∙◌}
use Rattle.serde_json.specs.Data.{object, number, unsigned, member, no_members}
use Rattle.serde_json.specs.Written.{compact_text}
use Rattle.bf_answers.specs.inner.Answers.{number_of}
use Rattle.bf_answers.specs.inner.Pieces.{named_members}
use Rattle.bf_answers.specs.TableText.{optional}
use Rattle.bf_answers.proofs.Texts.{status_made, status_there}
use Rattle.bf_answers.proofs.entry.push_status_entry.Goals as goal

pub returns : goal.returns
returns c =
    let before = string_bytes c.args.text.now in
    let name = c.args.name.now in
    let status = c.args.status in
    c.in_ok-push_str-2.ensures.bytes ∙ ap (λ t. t ++ codes "}") (c.in_ok-write.ensures.bytes ∙ ap (λ t. t ++ decimal status) c.in_ok-push_str.ensures.bytes)
    ∙ status_made (string_bytes c.push_entry_start.new.text) status
    ∙ c.in_ok-push_entry_start.ensures (member (codes "status") (number (unsigned status)) no_members)
    ∙ ap (λ o. before ++ 44 ∷ 10 ∷ compact_text (object (named_members name.run.now name.task.now (number_of name.index) c.args.attempt (optional (codes "status") o no_members)))) (sym (status_there status c.requires))
