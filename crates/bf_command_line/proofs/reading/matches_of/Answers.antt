use Rattle.std.proofs.Common.{◌≡◌, true, refl, ap, ◌∙◌, subst, List, map, string_bytes}
use Rattle.std.proofs.lemmas.Result.{IfOk-weaker}
use Rattle.clap.specs.Words.{App, FailsBy, Text, fault_of, is_simple, is_simple_and_free, subcommand_of}
use Rattle.bf_grammar.specs.Grammar.{backfill_app}
use Rattle.bf_command_line.proofs.reading.matches_of.Goals as goal

simple : is_simple backfill_app ≡ true
simple = refl

simple_and_free : is_simple_and_free backfill_app ≡ true
simple_and_free = refl

pub returns-clause-ok : goal.returns-clause-ok
returns-clause-ok c =
    let words : List Text = map string_bytes c.args.words.now in
    IfOk-weaker c.try_get_matches_from.result _ _ (λ m h. (h (ap is_simple c.in_ok-backfill_command.ensures ∙ simple)).1 ∙ ap (λ (app : App). subcommand_of app words) c.in_ok-backfill_command.ensures) c.try_get_matches_from.ensures.matches

pub returns-clause-err : goal.returns-clause-err
returns-clause-err c =
    let words : List Text = map string_bytes c.args.words.now in
    subst (λ (app : App). FailsBy (fault_of app words) c.try_get_matches_from.result) c.in_ok-backfill_command.ensures (c.try_get_matches_from.ensures.kinds (ap is_simple_and_free c.in_ok-backfill_command.ensures ∙ simple_and_free))
