-- Tries that are answered from what is kept of a journal, and else of what was kept before it.
use Rattle.std.proofs.Common.{◌≡◌, ◌∙◌, Bool, true, false, Option, Some, None, refl, sym, ap}
use Rattle.std.specs.Option.{option_or}
use Rattle.bf_value.specs.declared.name.JobName.{JobName}
use Rattle.bf_plan.specs.declared.plan.Dag.{Dag}
use Rattle.bf_xcom.specs.declared.values.Given.{Given}
use Rattle.bf_try.specs.declared.answers.Raw.{Raw}
use Rattle.bf_try.specs.declared.ledger.Entry.{Entry}
use Rattle.bf_try.specs.Tries.{Ledger}
use Rattle.bf_kept.specs.Kept.{AreFit, IsAnsweredBy}
use Rattle.bf_journal.specs.Since.{left_of, since}
use Rattle.bf_journal.proofs.Leaving.{left_is_kept}

-- a try is answered by what is kept of it alone
pub answered_at : (one other : Ledger) (n : JobName) → one n ≡ other n → (given : Given) (raw : Option Raw) → IsAnsweredBy one n given raw → IsAnsweredBy other n given raw
answered_at one other n same given None new = λ e kept. new e (same ∙ kept.0, kept.1)
answered_at one other n same given (Some raw) is = record { held = is.held; is_kept = (sym same ∙ is.is_kept.0, is.is_kept.1); grades = is.grades }

-- what is left of a journal is a part of it
pub part_of : (retry : Bool) (dag : Dag) (tries : Ledger) (n : JobName) (e : Entry) → left_of retry dag tries n ≡ Some e → tries n ≡ Some e
part_of true dag tries n e is = left_is_kept dag tries n e is
part_of false dag tries n e is = is

-- what is left of a journal goes before what was kept before it
pub since_first : (kept before : Ledger) (n : JobName) (e : Entry) → kept n ≡ Some e → since kept before n ≡ Some e
since_first kept before n e is = ap (λ (o : Option Entry). option_or o (before n)) is

pub since_else : (kept before : Ledger) (n : JobName) → kept n ≡ None → since kept before n ≡ before n
since_else kept before n none = ap (λ (o : Option Entry). option_or o (before n)) none

-- what holds of each try of both holds of each that is kept
pub since_all : (P : JobName → Entry → Type 0) (kept before : Ledger) → ((n : JobName) (e : Entry) → kept n ≡ Some e → P n e) → ((n : JobName) (e : Entry) → before n ≡ Some e → P n e)
    → (n : JobName) (e : Entry) → since kept before n ≡ Some e → P n e
since_all P kept before first rest n e is = go (kept n) refl
  where
    go : (o : Option Entry) → kept n ≡ o → P n e
    go (Some d) there = first n e (there ∙ (sym (since_first kept before n d there) ∙ is))
    go None none = rest n e (sym (since_else kept before n none) ∙ is)

-- so all that is kept fits where both do
pub since_fits : (retry : Bool) (dag : Dag) (tries before : Ledger) → AreFit dag tries → AreFit dag before → AreFit dag (since (left_of retry dag tries) before)
since_fits retry dag tries before fit fit_before =
    since_all _ (left_of retry dag tries) before (λ n e is. fit n e (part_of retry dag tries n e is)) fit_before
