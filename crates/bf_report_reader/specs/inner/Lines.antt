-- The line that was read last.
use Rattle.std.specs.Prelude.{ℕ, List, if◌then◌else◌}
use Rattle.bf_report_reader.specs.declared.reading.Lines.{Lines}
use Rattle.bf_report_reader.specs.inner.Held.{held_line}

-- it is held whole, or was put together from pieces
abbrev pub line_in : Lines → List ℕ
line_in lines = if lines.is_held then held_line lines.held else lines.pieces.items
