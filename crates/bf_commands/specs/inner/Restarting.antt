-- What is told of programs that are started again.
use Rattle.std.specs.Prelude.{ℕ, List, ◌++◌, codes}
use Rattle.bf_words.specs.declared.context.JobContext.{JobContext}
use Rattle.bf_failure.specs.Tried.{try_text_of}

-- as `not started yet: load 2024-02-14T00:00:00Z index 2 try 1: Resource temporarily unavailable`, and a line feed
abbrev pub restart_line_of : JobContext → List ℕ → List ℕ
restart_line_of try words =
    codes "not started yet: " ++ (try_text_of try ++ (codes ": " ++ (words ++ codes "\n")))
