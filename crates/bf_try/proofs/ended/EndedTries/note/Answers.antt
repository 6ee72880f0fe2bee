use Rattle.std.proofs.Common.{◌≡◌, List, None, sym, ap, ◌∙◌}
use Rattle.std.specs.FinMap as map
use Rattle.bf_value.specs.declared.name.JobName.{JobName}
use Rattle.bf_value.specs.Names.{name_cmp}
use Rattle.bf_value.specs.inner.Names.{name_cmp_total, name_cmp-IsAntisymmetric}
use Rattle.bf_try.specs.declared.ledger.Entry.{Entry}
use Rattle.bf_try.proofs.Maps.{get_is}
use Rattle.bf_try.proofs.ended.EndedTries.note.Goals as goal

pub returns-clause-ok : goal.returns-clause-ok
returns-clause-ok c =
    let es : List (JobName × Entry) = c.self.inside.entries.items in
    let new : map.get (map.from_entries {R = name_cmp} es) c.args.name ≡ None = rw c.self.view_is c.requires in
    rw (← c.self.view_is) (
    ap (λ (xs : List (JobName × Entry)). map.from_entries {R = name_cmp} xs) c.in_ok-push.ensures.items
    ∙ map.from_entries_push name_cmp_total name_cmp-IsAntisymmetric es c.args.name c.args.entry (sym (get_is es c.args.name) ∙ new))
