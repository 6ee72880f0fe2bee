use Rattle.std.proofs.Common.{Option, IsSome, sym, ◌∙◌, subst, true≢false}
use Rattle.bf_try.specs.declared.ledger.Entry.{Entry}
use Rattle.bf_try.proofs.Maps.{got, updated}
use Rattle.bf_try.proofs.ledger.Ledger.put_back.Goals as goal

pub unreachable-requires : goal.unreachable-requires
unreachable-requires c =
    true≢false (sym (subst (λ (r : Option Entry). IsSome r)
    (got c.self.inside.entries.entries c.args.name ∙ sym (c.in-Ok-None.ensures {u = tt}).old ∙ c.in-Ok-None.field-0-is)
    (rw (← c.self.view_is) at c.requires)))

pub unreachable-requires-in-Err : goal.unreachable-requires-in-Err
unreachable-requires-in-Err c =
    true≢false (sym (subst (λ (r : Option Entry). IsSome r)
    (got c.self.inside.entries.entries c.args.name ∙ (c.in-Err.ensures {u = tt}).absent)
    (rw (← c.self.view_is) at c.requires)))

pub returns-clause-back : goal.returns-clause-back
returns-clause-back c =
    rw (← c.self.view_is) (updated c.self.inside.entries.entries c.insert.new.self.entries c.args.name c.args.held (c.in-Ok-Some.ensures {u = tt}).updates.0)

pub returns-clause-other : goal.returns-clause-other
returns-clause-other c =
    rw (← c.self.view_is) (got c.self.inside.entries.entries c.args.name ∙ sym (c.in-Ok-Some.ensures {u = tt}).old ∙ c.in-Ok-Some.field-0-is)
