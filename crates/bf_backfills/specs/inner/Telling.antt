-- What is told on the screen besides the report.
use Rattle.std.specs.Prelude.{◌&&◌, ◌||◌, not, Bool}
use Rattle.bf_commands.specs.declared.crew.Tells.{Tells}

-- of programs, and unless all is to be quiet: progress on a terminal, and failed tries there, beside progress, or with logs
abbrev pub tells_asked_of : Bool → Bool → Bool → Bool → Bool → Tells
tells_asked_of on_terminal by_programs quiet progress has_logs =
    record {
      progress = (by_programs && not quiet) && on_terminal;
      failures = (by_programs && not quiet) && (on_terminal || (progress || has_logs));
    }
