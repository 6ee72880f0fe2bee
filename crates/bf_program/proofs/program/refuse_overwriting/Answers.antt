use Rattle.bf_program.proofs.Ends.{memory_by, refused_by, unwritten_by}
use Rattle.bf_program.proofs.program.refuse_overwriting.Goals as goal

pub returns-clause-ok : goal.returns-clause-ok
returns-clause-ok g c = refused_by _ _ c.in_ok-error.ensures c.show_clap_error.ensures.ok

pub returns-clause-memory : goal.returns-clause-memory
returns-clause-memory g c = memory_by _ _ _ _ _ c.in_ok-error.ensures c.show_clap_error.ensures.unshown

pub returns-clause-unwritten : goal.returns-clause-unwritten
returns-clause-unwritten g c = unwritten_by _ _ _ _ _ c.in_ok-error.ensures c.show_clap_error.ensures.ok c.show_clap_error.ensures.wrong c.show_clap_error.ensures.unshown
