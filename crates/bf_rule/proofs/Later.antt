-- A verdict that was taken is not revised by what finishes later.
use Rattle.std.proofs.Common.{◌≡◌, ◌≢◌, ℕ, suc, zero, ◌+◌, ◌==◌, nat_lt, Bool, true, false, ◌||◌, refl, sym, ap, ◌∙◌, arith}
use Rattle.std.proofs.lemmas.Bool.Decides.{nat_tests}
use Rattle.bf_rule.specs.declared.rule.Rule.{Rule}
use Rattle.bf_rule.specs.declared.rule.Rule.TheVariants.{OneSuccess as One_success, OneFailed as One_failed, OneDone as One_done, Always}
use Rattle.bf_rule.specs.declared.rule.Counts.{Counts}
use Rattle.bf_rule.specs.declared.rule.Verdict.TheVariants.{Wait, Run}
use Rattle.bf_rule.specs.Verdicts.{verdict_of, is_rule_met_in, finished_of, add, IsLater}

pub fires_later : (rule : Rule) (c d : Counts) → IsLater c d → is_rule_met_in rule c ≡ true → is_rule_met_in rule d ≡ true
fires_later One_success c d later e = grind (arith, nat_tests, later.success)
fires_later One_failed c d later e = grind (arith, nat_tests, later.failed, later.upstream_failed)
fires_later One_done c d later e = grind (arith, nat_tests, later.failed, later.success)
fires_later Always c d later e = refl
fires_later _ c d later e = cc

or_true : (b : Bool) → (b || true) ≡ true
or_true true = refl
or_true false = refl

fired : (rule : Rule) (c : Counts) → is_rule_met_in rule c ≡ true → verdict_of rule c ≡ Run
unfolding verdict_of
fired rule c e = rw (e, or_true (finished_of c + c.blocked + c.unfinished == 0))

not_fired : (rule : Rule) (c : Counts) (n : ℕ) → c.unfinished ≡ suc n → is_rule_met_in rule c ≡ false → verdict_of rule c ≡ Wait
unfolding verdict_of
not_fired rule c n e f =
    let some : (finished_of c + c.blocked + c.unfinished == 0) ≡ false = grind (arith, nat_tests) in
    let more : nat_lt 0 c.unfinished ≡ true = grind (arith, nat_tests) in
    rw (f, some, more)

pub verdict_stable : (rule : Rule) (c d : Counts) → IsLater c d → verdict_of rule c ≢ Wait → verdict_of rule c ≡ verdict_of rule d
verdict_stable rule c d later decides = go c.unfinished refl (is_rule_met_in rule c) refl
  where
    go : (n : ℕ) → c.unfinished ≡ n → (b : Bool) → is_rule_met_in rule c ≡ b → verdict_of rule c ≡ verdict_of rule d
    go zero e b f = ap (verdict_of rule) (later.done e)
    go (suc n) e true f = fired rule c f ∙ sym (fired rule d (fires_later rule c d later f))
    go (suc n) e false f = absurd (decides (not_fired rule c n e f))

pub add_later : (a b c d : Counts) → IsLater a c → IsLater b d → IsLater (add a b) (add c d)
add_later a b c d p q = record {
  success = omega arith;
  failed = omega arith;
  upstream_failed = omega arith;
  done = λ e. let x : a ≡ c = p.done (omega arith) in let y : b ≡ d = q.done (omega arith) in cc;
}
