use Rattle.bf_quoted.proofs.LineFacts.{shell_line}
use Rattle.bf_quoted.proofs.laws.a_shell_reads_the_words_of_a_line.Goals as goal

pub returns : goal.returns
returns c = shell_line
