use Rattle.std.proofs.Common.{ℕ, List, Contains, sym, subst}
use Rattle.bf_check.proofs.ListLemmas.{next_contained}
use Rattle.bf_check.proofs.NumberLemmas.{pulled_among}
use Rattle.bf_check.proofs.tasks.words_of.Goals as goal

pub word_of-requires-clause-pulled : goal.word_of-requires-clause-pulled
word_of-requires-clause-pulled c = λ id pulls.
    let one = next_contained _ _ c.args.drafts _ c.in-Some.word c.loop-word.invariant.left c.in-Some.ensures.steps.0 in
    subst (λ (ids : List (List ℕ)). Contains ids id) (sym c.requires.pulled) (pulled_among c.args.drafts c.in-Some.word id one pulls)
