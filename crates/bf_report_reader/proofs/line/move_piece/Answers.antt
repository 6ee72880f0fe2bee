use Rattle.std.proofs.Common.{◌≡◌, ◌≤◌, ◌<◌, ◌+◌, ◌∙◌, length, take, drop, true, false, sym, ap, subst, arith}
use Rattle.bf_report_reader.specs.Faults.{longest_line}
use Rattle.bf_report_reader.specs.inner.Held.{MovesPiece, held_bytes}
use Rattle.bf_report_reader.proofs.Pieces.{moves_to_end, moves_on}
use Rattle.bf_report_reader.proofs.line.move_piece.Goals as goal

pub returns-in_ok-extend_from_slice-in-Some-clause-piece : goal.returns-in_ok-extend_from_slice-in-Some-clause-piece
returns-in_ok-extend_from_slice-in-Some-clause-piece c =
    let limit : c.limit_of.result ≡ longest_line c.args.line.now.items = c.limit_of.ensures ∙ ap longest_line c.as_slice.ensures.value in
    let fits : length c.args.line.now.items + c.min.result ≤ longest_line c.args.line.now.items + 1 = omega (arith, c.min.ensures, limit, c.len.ensures, c.requires) in
    let left : held_bytes c.skip.new.self ≡ drop (c.in-Some.at + 1) c.bytes-bytes.result.now = c.skip.ensures.bytes ∙ ap (drop (c.in-Some.at + 1)) (sym c.bytes-bytes.ensures) in
    subst (λ b. MovesPiece true b (held_bytes c.skip.new.self) c.args.line.now.items c.extend_from_slice.new.self.items) c.bytes-bytes.ensures
    (moves_to_end c.min.result c.in-Some.at c.bytes-bytes.result.now (held_bytes c.skip.new.self) c.args.line.now.items c.extend_from_slice.new.self.items fits (sym c.in-Some.ensures) left c.in_ok-extend_from_slice-in-Some.ensures.items)

pub returns-in_ok-extend_from_slice-in-None-clause-piece : goal.returns-in_ok-extend_from_slice-in-None-clause-piece
returns-in_ok-extend_from_slice-in-None-clause-piece c =
    let limit : c.limit_of.result ≡ longest_line c.args.line.now.items = c.limit_of.ensures ∙ ap longest_line c.as_slice.ensures.value in
    let fits : length c.args.line.now.items + c.min.result ≤ longest_line c.args.line.now.items + 1 = omega (arith, c.min.ensures, limit, c.len.ensures, c.requires) in
    let within : c.min.result ≤ length c.bytes-bytes.result.now = omega (arith, c.min.ensures) in
    let some : 0 < length c.bytes-bytes.result.now → 0 < c.min.result = λ held. omega (arith, held, c.min.ensures, limit, c.len.ensures, c.requires) in
    let left : held_bytes c.skip-in-None.new.self ≡ drop (length (take c.min.result c.bytes-bytes.result.now)) c.bytes-bytes.result.now = c.skip-in-None.ensures.bytes ∙ ap (drop (length (take c.min.result c.bytes-bytes.result.now))) (sym c.bytes-bytes.ensures) in
    subst (λ b. MovesPiece false b (held_bytes c.skip-in-None.new.self) c.args.line.now.items c.extend_from_slice-in-None.new.self.items) c.bytes-bytes.ensures
    (moves_on c.min.result c.bytes-bytes.result.now (held_bytes c.skip-in-None.new.self) c.args.line.now.items c.extend_from_slice-in-None.new.self.items within some fits (sym c.in-None.ensures) left c.in_ok-extend_from_slice-in-None.ensures.items)
