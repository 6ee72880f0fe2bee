use Rattle.std.proofs.Common.{◌≡◌, ◌∙◌, ◌+◌, ◌==◌, ◌∷◌, ◌++◌, Some, position, take, drop, refl, sym, ap, ap₂}
use Rattle.std.proofs.lemmas.List.{drop-drop}
use Rattle.bf_report_reader.specs.inner.Held.{held_bytes}
use Rattle.bf_report_reader.proofs.Taking.{line_taken, line_held, in_line_before, short_enough}
use Rattle.bf_report_reader.proofs.held.ReadBuffer.take_line.Goals as goal

pub returns-in-Some : goal.returns-in-Some
returns-in-Some c =
    let held = c.args.self.now in
    let at = c.in-Some.at in
    let bytes = held_bytes held in
    let found : position (λ b. b == 10) bytes ≡ Some at = ap (position (λ b. b == 10)) (sym c.bytes.ensures) ∙ sym c.in-Some.ensures in
    let line = line_held held.room.items held.start held.end at held.within held.in_order found in
    record {
      taken = line_taken bytes at found ∙ ap₂ (λ l r. l ++ 10 ∷ r) (sym line) (drop-drop (at + 1) held.start (take held.end held.room.items));
      in_line = in_line_before bytes (drop held.start (take (held.start + at) held.room.items)) at found line;
      short = short_enough bytes (drop held.start (take (held.start + at) held.room.items)) at c.if-at-le-LONGEST_LINE.true line;
      same = refl;
    }
