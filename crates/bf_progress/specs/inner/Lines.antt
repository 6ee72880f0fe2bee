-- The lines that are told of progress.
use Rattle.std.specs.Prelude.{ℕ, ◌/◌, ◌%◌, Bool, true, false, List, ◌∷◌, ◌++◌, codes, decimal}
use Rattle.bf_words.specs.declared.context.JobContext.{JobContext}
use Rattle.bf_failure.specs.Tried.{try_text_of}
use Rattle.bf_progress.specs.declared.counts.Counts.{Counts}
use Rattle.bf_progress.specs.Lines.{counts_text}

-- the text of the counts, and a line feed
abbrev pub counts_line : Counts → List ℕ
counts_line c = counts_text c ++ codes "\n"

-- the text of the counts, without a line feed, as it is kept on a terminal: between ESC [ ? 7 l and ESC [ ? 7 h it is cut where the terminal ends, and goes on in no other line
abbrev pub kept_line : Counts → List ℕ
kept_line c = 27 ∷ codes "[?7l" ++ (counts_text c ++ (27 ∷ codes "[?7h"))

-- as `running for 3600 s: crawl 2024-01-01T05:00:00Z index 2 try 1`, and a line feed
abbrev pub longest_line_of : ℕ → JobContext → List ℕ
longest_line_of seconds try =
    codes "running for " ++ (decimal seconds ++ (codes " s: " ++ (try_text_of try ++ codes "\n")))

-- a number below 100 by two digits
abbrev pub two_digits : ℕ → List ℕ
two_digits n = decimal (n / 10) ++ decimal (n % 10)

-- a second of a day, as `14:05:10`
abbrev pub clock_text_of : ℕ → List ℕ
clock_text_of second =
    two_digits (second / 3_600) ++ (codes ":" ++ (two_digits (second / 60 % 60)
    ++ (codes ":" ++ two_digits (second % 60))))

-- as `waiting until 14:05:10: load 2024-02-14T00:00:00Z index 2 try 2`, and a line feed
abbrev pub delayed_line_of : ℕ → JobContext → List ℕ
delayed_line_of second try =
    codes "waiting until " ++ (clock_text_of second ++ (codes ": " ++ (try_text_of try ++ codes "\n")))

-- on a terminal a carriage return and ESC [ K take away the line that stands there
abbrev pub line_at : Bool → List ℕ → List ℕ
line_at true line = 13 ∷ 27 ∷ codes "[K" ++ line
line_at false line = line
