use Rattle.std.proofs.Common.{◌∙◌, length, arith, inl, refl, sym}
use Rattle.std.proofs.lemmas.List.{take_all}
use Rattle.bf_journal.proofs.whole.try_make_whole.Goals as goal

pub returns-then-not-try_cut-clause-part : goal.returns-then-not-try_cut-clause-part
returns-then-not-try_cut-clause-part g c held torn failed told =
    (held, c.if-not-try_cut.ensures.kept refl ∙ told, record { count = length held; is = inl (sym (take_all (length held) held (omega arith))) })
