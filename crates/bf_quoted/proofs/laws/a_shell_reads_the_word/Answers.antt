use Rattle.bf_quoted.proofs.ReadFacts.{shell_reads}
use Rattle.bf_quoted.proofs.laws.a_shell_reads_the_word.Goals as goal

pub returns : goal.returns
returns c = shell_reads
