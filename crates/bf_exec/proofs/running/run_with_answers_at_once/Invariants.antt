use Rattle.bf_exec.proofs.running.run_with_answers_at_once.Given as goal

abbrev pub ghosts-run_order : goal.ghosts-run_order
ghosts-run_order g a = record { answers = g.R.TaskRunner.may_answer a.desk.now.runner.now; gives_up = g.R.TaskRunner.may_give_up a.desk.now.runner.now }
