use Rattle.std.proofs.Common.{◌≡◌, Option, Some, IsSome, List, refl, sym, ap, ◌∙◌, subst, true≢false}
use Rattle.std.specs.FinMap
use Rattle.bf_value.specs.Names.{name_cmp}
use Rattle.bf_value.specs.declared.name.JobName.{JobName}
use Rattle.bf_try.specs.declared.ledger.Entry.{Entry}
use Rattle.bf_try.proofs.Maps.{got, got_inserted, put_back_is, updated}
use Rattle.bf_try.proofs.ledger.Ledger.note.Goals as goal

-- what has taken the place of the entry that was held is there
taken : (es fs : List (JobName × Entry)) (n : JobName) (e : Entry) → FinMap.from_entries {R = name_cmp} fs ≡ FinMap.insert (FinMap.from_entries es) n e →
    FinMap.get (FinMap.from_entries {R = name_cmp} fs) n ≡ Some e
taken es fs n e is = ap (λ (m : FinMap.FinMap name_cmp Entry). FinMap.get m n) is ∙ got_inserted (FinMap.from_entries es) n e

some_one : {e d : Entry} → Some e ≡ Some d → e ≡ d
some_one is = cc

pub put_back-requires : goal.put_back-requires
put_back-requires c =
    let now = updated c.self.inside.entries.entries c.insert.new.self.entries c.args.name c.args.entry (c.in-Ok-Some.ensures {u = tt}).updates.0 in
    subst (λ (r : Option Entry). IsSome r) (sym (taken c.self.inside.entries.entries c.insert.new.self.entries c.args.name c.args.entry now)) refl

pub returns-in-Ok-None-clause-ok : goal.returns-in-Ok-None-clause-ok
returns-in-Ok-None-clause-ok c =
    rw (← c.self.view_is) (
      got c.self.inside.entries.entries c.args.name ∙ sym (c.in-Ok-None.ensures {u = tt}).old ∙ c.in-Ok-None.field-0-is,
      updated c.self.inside.entries.entries c.insert.new.self.entries c.args.name c.args.entry (c.in-Ok-None.ensures {u = tt}).updates.0,
    )

pub returns-in-Ok-Some-clause-recorded : goal.returns-in-Ok-Some-clause-recorded
returns-in-Ok-Some-clause-recorded c =
    let held = got c.self.inside.entries.entries c.args.name ∙ sym (c.in-Ok-Some.ensures {u = tt}).old ∙ c.in-Ok-Some.field-0-is in
    rw (← c.self.view_is) (λ _. subst (λ (r : Option Entry). IsSome r) (sym held) refl, λ _. refl)

pub returns-in-Ok-Some-clause-back : goal.returns-in-Ok-Some-clause-back
returns-in-Ok-Some-clause-back c =
    let now = updated c.self.inside.entries.entries c.insert.new.self.entries c.args.name c.args.entry (c.in-Ok-Some.ensures {u = tt}).updates.0 in
    some_one (sym c.put_back.ensures.other ∙ taken c.self.inside.entries.entries c.insert.new.self.entries c.args.name c.args.entry now)

pub returns-in-Ok-Some-clause-err : goal.returns-in-Ok-Some-clause-err
returns-in-Ok-Some-clause-err c =
    let es = c.self.inside.entries.entries in
    let held = got es c.args.name ∙ sym (c.in-Ok-Some.ensures {u = tt}).old ∙ c.in-Ok-Some.field-0-is in
    let now = updated es c.insert.new.self.entries c.args.name c.args.entry (c.in-Ok-Some.ensures {u = tt}).updates.0 in
    rw (← c.self.view_is) (
    c.put_back.ensures.back ∙ ap (λ (m : FinMap.FinMap name_cmp Entry). FinMap.insert m c.args.name c.in-Ok-Some.held) now
    ∙ put_back_is (FinMap.from_entries es) c.args.name c.in-Ok-Some.held c.args.entry held)

pub returns-in-Err-clause-recorded : goal.returns-in-Err-clause-recorded
returns-in-Err-clause-recorded c =
    let none = got c.self.inside.entries.entries c.args.name ∙ (c.in-Err.ensures {u = tt}).absent in
    rw (← c.self.view_is) (λ is. cc, λ some. absurd (true≢false (sym (subst (λ (r : Option Entry). IsSome r) none some))))
