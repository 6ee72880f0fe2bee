-- The limits of a graph file.
use Rattle.std.specs.Prelude.{ℕ}

-- how many bytes the file may have
abbrev pub most_bytes : ℕ
most_bytes = 8_388_608

-- how many runs may be open at once
abbrev pub most_active_runs : ℕ
most_active_runs = 4_096

-- how many tasks, and how many distinct edges between them
abbrev pub most_tasks : ℕ
most_tasks = 2_000

abbrev pub most_edges : ℕ
most_edges = 20_000

-- how many words a command may have, from how many distinct tasks it may pull, and how many bytes a text in it may have
abbrev pub most_words : ℕ
most_words = 64

abbrev pub most_pulls : ℕ
most_pulls = 16

abbrev pub longest_word : ℕ
longest_word = 4_096

-- how often a failed try may be made again, and how many seconds each of these tries may wait
abbrev pub most_retries : ℕ
most_retries = 100

abbrev pub longest_retry_delay : ℕ
longest_retry_delay = 86_400

-- how many slots a pool may have, and a task may take
abbrev pub most_slots : ℕ
most_slots = 1_000_000

-- what a task may weigh by itself
abbrev pub greatest_weight : ℕ
greatest_weight = 1_000_000
