use Rattle.std.proofs.Common.{refl}
use Rattle.bf_grammar.proofs.viewing.page_command.Goals as goal

pub returns : goal.returns
returns c = c.arg-2.ensures _ _ (c.arg.ensures _ _ c.new_report_command.ensures c.states_only_flag.ensures refl) c.page_journal_option.ensures refl
