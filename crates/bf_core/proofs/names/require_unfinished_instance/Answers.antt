use Rattle.std.proofs.Common.{◌≡◌, true, false, sym, ◌∙◌}
use Rattle.bf_core.specs.inner.Checks.{asked_phase}
use Rattle.bf_core.proofs.Known.{present_from, known_from, known_back, present_back}
use Rattle.bf_core.proofs.names.require_unfinished_instance.Goals as goal

pub returns-in-None-clause-err : goal.returns-in-None-clause-err
returns-in-None-clause-err c = λ k. c.in-None.ensures.none k.held (known_back c.args.dag.now c.args.state.now c.args.name k)

pub returns-then-is_as_asked-clause-ok : goal.returns-then-is_as_asked-clause-ok
returns-then-is_as_asked-clause-ok c =
    let is = c.is_as_asked.ensures.0 c.if-is_as_asked.true in
    present_from c.args.dag.now c.args.state.now c.args.name c.in-Some.instance.now (asked_phase c.args.asked) c.in-Some.ensures.some is.0 is.1

pub returns-else-is_as_asked-clause-err : goal.returns-else-is_as_asked-clause-err
returns-else-is_as_asked-clause-err c = (
  known_from c.args.dag.now c.args.state.now c.requires c.args.name c.in-Some.instance.now c.in-Some.ensures.some,
  λ present.
      let is : true ≡ false = sym (c.is_as_asked.ensures.1 (present_back c.args.dag.now c.args.state.now c.args.name c.in-Some.instance.now (asked_phase c.args.asked) c.in-Some.ensures.some present)) ∙ c.if-is_as_asked.false in
      cc,
)
