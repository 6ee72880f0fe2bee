use Rattle.std.proofs.Common.{ℕ, List, Option, ap, option_map, refl, string_bytes, subst}
use Rattle.bf_backfills.specs.Commands.{machine_of}
use Rattle.bf_input.specs.Overwriting.{IsOverwriting, IsSparing, leads_of}
use Rattle.bf_program.specs.Commands.{found_in, outputs}
use Rattle.bf_program.proofs.Ends.{filed_ends, line_unshown, printed_ends, refused_ends, shown_ends, shown_may}
use Rattle.bf_program.proofs.program.answer_line.Goals as goal

pub returns-in-Err-clause-line : goal.returns-in-Err-clause-line
returns-in-Err-clause-line g c = λ wrong. shown_ends _ c.in-Err.error _ c.in-Err.ensures.err c.show_clap_error.ensures.memory c.show_clap_error.ensures.ok

pub returns-in-Err-clause-unshown : goal.returns-in-Err-clause-unshown
returns-in-Err-clause-unshown g c = λ wrong. line_unshown _ _ _ _ c.in-Err.error _ c.in-Err.ensures.err c.show_clap_error.ensures.unshown

pub returns-in-Err-clause-why : goal.returns-in-Err-clause-why
returns-in-Err-clause-why g c = λ none.
    shown_may (g.RT.Starter.may_hear c.args.rt.now) (g.RT.Starter.may_lose c.args.rt.now) _ _ _ _ _ _ _ _ _ _ c.in-Err.error _
    c.in-Err.ensures.err none c.show_clap_error.ensures.wanting c.show_clap_error.ensures.kept refl refl

pub returns-then-is_overwriting : goal.returns-then-is_overwriting
returns-then-is_overwriting g c =
    let may_hear = g.RT.Starter.may_hear c.args.rt.now in
    let may_lose = g.RT.Starter.may_lose c.args.rt.now in
    let files = g.S.Source.file c.args.files.now in
    let machine = machine_of (g.J.Journals.journal c.args.journals.now) (g.J.Launchers.startable c.args.journals.now) in
    let leads = leads_of (g.J.Places.same c.args.journals.now) (g.J.Places.started c.args.journals.now) in
    let line = c.in-Ok.field-0 in
    let overwrites = subst (λ (path : List ℕ). IsOverwriting leads line.command path) c.as_str.ensures.value (c.is_overwriting.ensures.yes c.if-is_overwriting.true) in
    let same = ap (λ (w : Option (List ℕ)). outputs w (g.F.Folder.placed c.args.folder.now) (g.F.Folder.left c.args.folder.now)) c.refuse_overwriting.ensures.unwritten in
    refused_ends may_hear may_lose c.args.canvas files machine leads (found_in c.args.words.now) _ _ _ _ line _ _ _ _ _ c.in-Ok.ensures.ok c.in-Ok.ensures.err
    (string_bytes c.in-Some.path) (ap (option_map string_bytes) c.in-Some.is) overwrites same _
    c.refuse_overwriting.ensures.ok c.refuse_overwriting.ensures.memory c.refuse_overwriting.ensures.untouched

pub returns-else-is_overwriting : goal.returns-else-is_overwriting
returns-else-is_overwriting g c =
    let may_hear = g.RT.Starter.may_hear c.args.rt.now in
    let may_lose = g.RT.Starter.may_lose c.args.rt.now in
    let files = g.S.Source.file c.args.files.now in
    let machine = machine_of (g.J.Journals.journal c.args.journals.now) (g.J.Launchers.startable c.args.journals.now) in
    let leads = leads_of (g.J.Places.same c.args.journals.now) (g.J.Places.started c.args.journals.now) in
    let line = c.in-Ok.field-0 in
    let spares = subst (λ (path : List ℕ). IsSparing leads line.command path) c.as_str.ensures.value (c.is_overwriting.ensures.no c.if-is_overwriting.false) in
    filed_ends may_hear may_lose c.args.canvas files machine leads (found_in c.args.words.now) _ _ _ _ line _ _ _ c.in-Ok.ensures.ok c.in-Ok.ensures.err
    (string_bytes c.in-Some.path) (ap (option_map string_bytes) c.in-Some.is) refl spares _ c.answer_to_file.ensures.apart
    c.answer_to_file.ensures.answer c.answer_to_file.ensures.fault c.answer_to_file.ensures.same
    c.answer_to_file.ensures.kept c.answer_to_file.ensures.left

pub returns-in-None : goal.returns-in-None
returns-in-None g c = printed_ends _ _ _ _ _ _ _ _ _ _ _ _ _ _ _ c.in-Ok.ensures.ok c.in-Ok.ensures.err (ap (option_map string_bytes) c.in-None.is) refl refl _
    c.answer_command.ensures.answer c.answer_command.ensures.fault c.answer_command.ensures.left
