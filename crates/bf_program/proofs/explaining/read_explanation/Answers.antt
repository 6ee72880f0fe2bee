use Rattle.std.proofs.Common.{rules, ◌≡◌, ap, ◌∙◌}
use Rattle.bf_program.specs.Explained.{findings_text}
use Rattle.bf_input.specs.Inputs.{bytes_of}
use Rattle.bf_program.proofs.Unasked.{held_again}
use Rattle.bf_program.proofs.explaining.read_explanation.Goals as goal

pub returns-clause-ok : goal.returns-clause-ok
returns-clause-ok g c = λ graph zone held.
    let again = held_again (g.S.Source.file c.args.files.now) (g.S.Source.file c.find_all_again.new.files) c.find_all_again.ensures.stays c.args.asked graph zone held in
    let lent : c.as_slice.result.now ≡ c.in_ok-found.found.items = search rules in
    record {
      read = c.in_ok-files.files.graph.items;
      is_read = c.in_ok-files.ensures.read graph zone again;
      read_zone = bytes_of c.in_ok-files.files.zone_file;
      means = (c.in_ok-files.ensures.alike graph zone again).means;
      found = c.in_ok-found.found.items;
      are_found = rw (c.deref.ensures.value, c.zone_file.ensures) at c.in_ok-found.ensures;
      text_is = c.in_ok-text.ensures ∙ ap findings_text lent;
    }
