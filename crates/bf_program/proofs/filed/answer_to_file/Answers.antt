use Rattle.std.proofs.Common.{◌≡◌, ℕ, List, [], Option, Some, option_map, true, string_bytes, refl, sym, ap, ◌∙◌, subst, inl, inr}
use Rattle.bf_device.specs.Device.{HasHalted}
use Rattle.bf_file.specs.declared.call.Placed.{Placed}
use Rattle.bf_file.specs.Pages.{text_on}
use Rattle.bf_file.specs.Replacing.{HasReplaced}
use Rattle.bf_command_line.specs.Naming.{logs_of}
use Rattle.bf_input.specs.Overwriting.{MayLead, MayMiss, leads_of}
use Rattle.bf_backfills.specs.Commands.{machine_of}
use Rattle.bf_command_fault.specs.declared.fault.CommandFault.{CommandFault}
use Rattle.bf_command_fault.specs.declared.status.Status.{Status}
use Rattle.bf_program.specs.Commands.{IsAnswer}
use Rattle.bf_program.specs.CommandFaults.{IsFaultBy, LeavesFiled}
use Rattle.bf_program.specs.inner.Filed.{placing_fault}
use Rattle.bf_program.proofs.FiledReports.{empty_text, fault_by_file, left_by, replaced_by, unfiled_leaves, unplaced_fault, unplaced_leaves, unreplaced_fault}
use Rattle.bf_program.proofs.filed.answer_to_file.Goals as goal

-- ---- where the path may be that of the logs

pub returns-then-is_of_logs-clause-answer : goal.returns-then-is_of_logs-clause-answer
returns-then-is_of_logs-clause-answer g c = tt

pub returns-then-is_of_logs-clause-apart : goal.returns-then-is_of_logs-clause-apart
returns-then-is_of_logs-clause-apart g c = tt

pub returns-then-is_of_logs-clause-fault : goal.returns-then-is_of_logs-clause-fault
returns-then-is_of_logs-clause-fault g c =
    let lead = subst (λ (path : List ℕ). MayLead (g.J.Places.same c.args.journals.now) (logs_of c.args.command) path) c.as_str.ensures.value (c.is_of_logs.ensures.yes c.if-is_of_logs.true) in
    inl (c.new.ensures, inr lead)

pub returns-then-is_of_logs-clause-same : goal.returns-then-is_of_logs-clause-same
returns-then-is_of_logs-clause-same g c = refl

pub returns-then-is_of_logs-clause-kept : goal.returns-then-is_of_logs-clause-kept
returns-then-is_of_logs-clause-kept g c = tt

pub returns-then-is_of_logs-clause-left : goal.returns-then-is_of_logs-clause-left
returns-then-is_of_logs-clause-left g c = refl

-- ---- where no new file could be begun

pub returns-in-Err-clause-answer : goal.returns-in-Err-clause-answer
returns-in-Err-clause-answer g c = tt

pub returns-in-Err-clause-apart : goal.returns-in-Err-clause-apart
returns-in-Err-clause-apart g c = tt

pub returns-in-Err-clause-fault : goal.returns-in-Err-clause-fault
returns-in-Err-clause-fault g c =
    let may_lose = g.RT.Starter.may_lose c.args.rt.now in
    let files = g.S.Source.file c.args.files.now in
    let machine = machine_of (g.J.Journals.journal c.args.journals.now) (g.J.Launchers.startable c.args.journals.now) in
    let leads = leads_of (g.J.Places.same c.args.journals.now) (g.J.Places.started c.args.journals.now) in
    let path = string_bytes c.args.path in
    let HasFailed = g.F.Folder.failed c.begin_replacement.new.self ≡ true in
    subst (λ (f : CommandFault). IsFaultBy leads (Some path) HasFailed may_lose files machine c.args.command f) (sym c.fault_of_replacing.ensures)
    (unreplaced_fault may_lose files machine leads path HasFailed c.args.command c.in-Err.fault c.in-Err.ensures.failed)

pub returns-in-Err-clause-same : goal.returns-in-Err-clause-same
returns-in-Err-clause-same g c = c.begin_replacement.ensures.same

pub returns-in-Err-clause-kept : goal.returns-in-Err-clause-kept
returns-in-Err-clause-kept g c = tt

pub returns-in-Err-clause-left : goal.returns-in-Err-clause-left
returns-in-Err-clause-left g c =
    let may_hear = g.RT.Starter.may_hear c.args.rt.now in
    let files = g.S.Source.file c.args.files.now in
    let machine = machine_of (g.J.Journals.journal c.args.journals.now) (g.J.Launchers.startable c.args.journals.now) in
    let IsDue : List ℕ → Type 0 = λ text. (s : Status) × IsAnswer may_hear c.args.canvas files machine c.args.command text s in
    let before = g.F.Folder.left c.args.folder.now in
    let after = g.F.Folder.left c.begin_replacement.new.self in
    subst (λ (f : CommandFault). LeavesFiled IsDue before after f) (sym c.fault_of_replacing.ensures)
    (unplaced_leaves IsDue before after (string_bytes c.args.path) c.in-Err.fault c.begin_replacement.ensures.left)

-- ---- where the new file takes its place

pub returns-in-Ok-replace_by_page-clause-answer : goal.returns-in-Ok-replace_by_page-clause-answer
returns-in-Ok-replace_by_page-clause-answer g c =
    let path = string_bytes c.args.path in
    let begun = c.begin_replacement.new.self in
    let after = g.F.Folder.placed c.replace_by_page.new.folder in
    let sends = c.in-Ok-answer_command.ensures.answer in
    let empty = text_on c.new-page.result in
    let full = text_on c.answer_command.new.out in
    let none : empty ≡ option_map (λ _. []) (g.F.Folder.placed c.args.folder.now) = empty_text (g.F.Folder.placed c.args.folder.now) c.new-page.result.calls (c.new-page.ensures.calls ∙ c.in-Ok.ensures.empty) in
    let none_there : empty ≡ option_map (λ _. []) (g.F.Folder.placed begun) = none ∙ ap (λ (p : Option (List Placed)). option_map (λ _. []) p) (sym c.in-Ok.ensures.same) in
    let replaced = replaced_by (g.F.Folder.placed begun) after (g.F.Folder.begun begun) path sends.0 empty full (c.in-Ok.ensures.begun ∙ ap Some c.as_str-2.ensures.value) none_there sends.2 c.in-Ok-replace_by_page.ensures.replaced in
    (sends.0, sends.1, subst (λ (p : Option (List Placed)). HasReplaced p after path sends.0) c.in-Ok.ensures.same replaced)

pub returns-in-Ok-replace_by_page-clause-apart : goal.returns-in-Ok-replace_by_page-clause-apart
returns-in-Ok-replace_by_page-clause-apart g c =
    subst (λ (path : List ℕ). MayMiss (g.J.Places.same c.args.journals.now) (logs_of c.args.command) path) c.as_str.ensures.value (c.is_of_logs.ensures.no c.if-is_of_logs.false)

pub returns-in-Ok-replace_by_page-clause-fault : goal.returns-in-Ok-replace_by_page-clause-fault
returns-in-Ok-replace_by_page-clause-fault g c = tt

pub returns-in-Ok-replace_by_page-clause-same : goal.returns-in-Ok-replace_by_page-clause-same
returns-in-Ok-replace_by_page-clause-same g c = tt

pub returns-in-Ok-replace_by_page-clause-kept : goal.returns-in-Ok-replace_by_page-clause-kept
returns-in-Ok-replace_by_page-clause-kept g c = c.in-Ok-replace_by_page.ensures.kept ∙ c.in-Ok.ensures.left

pub returns-in-Ok-replace_by_page-clause-left : goal.returns-in-Ok-replace_by_page-clause-left
returns-in-Ok-replace_by_page-clause-left g c = tt

-- ---- where it doesn't

pub returns-in-Err-replace_by_page-clause-answer : goal.returns-in-Err-replace_by_page-clause-answer
returns-in-Err-replace_by_page-clause-answer g c = tt

pub returns-in-Err-replace_by_page-clause-apart : goal.returns-in-Err-replace_by_page-clause-apart
returns-in-Err-replace_by_page-clause-apart g c = tt

pub returns-in-Err-replace_by_page-clause-fault : goal.returns-in-Err-replace_by_page-clause-fault
returns-in-Err-replace_by_page-clause-fault g c =
    let may_lose = g.RT.Starter.may_lose c.args.rt.now in
    let files = g.S.Source.file c.args.files.now in
    let machine = machine_of (g.J.Journals.journal c.args.journals.now) (g.J.Launchers.startable c.args.journals.now) in
    let leads = leads_of (g.J.Places.same c.args.journals.now) (g.J.Places.started c.args.journals.now) in
    let path = string_bytes c.args.path in
    let HasFailed = g.F.Folder.failed c.replace_by_page.new.folder ≡ true in
    subst (λ (f : CommandFault). IsFaultBy leads (Some path) HasFailed may_lose files machine c.args.command f) (sym c.fault_of_placing.ensures)
    (unplaced_fault may_lose files machine leads path HasFailed c.args.command c.in-Err-replace_by_page.fault c.in-Err-replace_by_page.ensures.failed)

pub returns-in-Err-replace_by_page-clause-same : goal.returns-in-Err-replace_by_page-clause-same
returns-in-Err-replace_by_page-clause-same g c = c.in-Err-replace_by_page.ensures.same ∙ c.in-Ok.ensures.same

pub returns-in-Err-replace_by_page-clause-kept : goal.returns-in-Err-replace_by_page-clause-kept
returns-in-Err-replace_by_page-clause-kept g c = tt

pub returns-in-Err-replace_by_page-clause-left : goal.returns-in-Err-replace_by_page-clause-left
returns-in-Err-replace_by_page-clause-left g c =
    let may_hear = g.RT.Starter.may_hear c.args.rt.now in
    let files = g.S.Source.file c.args.files.now in
    let machine = machine_of (g.J.Journals.journal c.args.journals.now) (g.J.Launchers.startable c.args.journals.now) in
    let path = string_bytes c.args.path in
    let IsText : List ℕ → Status → Type 0 = λ text s. IsAnswer may_hear c.args.canvas files machine c.args.command text s in
    let IsDue : List ℕ → Type 0 = λ text. (s : Status) × IsText text s in
    let told = g.F.Folder.placed c.args.folder.now in
    let before = g.F.Folder.left c.begin_replacement.new.self in
    let after = g.F.Folder.left c.replace_by_page.new.folder in
    let empty = text_on c.new-page.result in
    let full = text_on c.answer_command.new.out in
    let none : empty ≡ option_map (λ _. []) told = empty_text told c.new-page.result.calls (c.new-page.ensures.calls ∙ c.in-Ok.ensures.empty) in
    let left = left_by IsText c.in-Ok-answer_command.status told before after path empty full none c.in-Ok-answer_command.ensures.answer c.in-Err-replace_by_page.fault c.in-Err-replace_by_page.ensures.left in
    subst (λ (f : CommandFault). LeavesFiled IsDue (g.F.Folder.left c.args.folder.now) after f) (sym c.fault_of_placing.ensures)
    (subst (λ (p : Option (List Placed)). LeavesFiled IsDue p after (placing_fault path c.in-Err-replace_by_page.fault)) c.in-Ok.ensures.left left)

-- ---- where the command ends with a fault

pub returns-in-Err-answer_command-clause-answer : goal.returns-in-Err-answer_command-clause-answer
returns-in-Err-answer_command-clause-answer g c = tt

pub returns-in-Err-answer_command-clause-apart : goal.returns-in-Err-answer_command-clause-apart
returns-in-Err-answer_command-clause-apart g c = tt

pub returns-in-Err-answer_command-clause-fault : goal.returns-in-Err-answer_command-clause-fault
returns-in-Err-answer_command-clause-fault g c =
    let may_lose = g.RT.Starter.may_lose c.args.rt.now in
    let files = g.S.Source.file c.args.files.now in
    let machine = machine_of (g.J.Journals.journal c.args.journals.now) (g.J.Launchers.startable c.args.journals.now) in
    let leads = leads_of (g.J.Places.same c.args.journals.now) (g.J.Places.started c.args.journals.now) in
    let path = string_bytes c.args.path in
    let HasFailed = g.F.Folder.failed c.discard_page-reason.new.folder ≡ true in
    let page = c.answer_command.new.out in
    subst (λ (f : CommandFault). IsFaultBy leads (Some path) HasFailed may_lose files machine c.args.command f) (sym c.fault_of_filed_command.ensures)
    (fault_by_file may_lose files machine leads path HasFailed _ _ _ _ c.args.command c.in-Err-answer_command.fault c.discard_page-reason.result c.in-Err-answer_command.ensures.fault c.in-Err-answer_command.ensures.left
    (λ halted. c.discard_page-reason.ensures.failed (subst (λ (n : ℕ). HasHalted n page.failures 0 0) c.new-page.ensures.failures halted)))

pub returns-in-Err-answer_command-clause-same : goal.returns-in-Err-answer_command-clause-same
returns-in-Err-answer_command-clause-same g c = c.discard_page-reason.ensures.same ∙ c.in-Ok.ensures.same

pub returns-in-Err-answer_command-clause-kept : goal.returns-in-Err-answer_command-clause-kept
returns-in-Err-answer_command-clause-kept g c = tt

pub returns-in-Err-answer_command-clause-left : goal.returns-in-Err-answer_command-clause-left
returns-in-Err-answer_command-clause-left g c =
    let may_lose = g.RT.Starter.may_lose c.args.rt.now in
    let may_hear = g.RT.Starter.may_hear c.args.rt.now in
    let files = g.S.Source.file c.args.files.now in
    let machine = machine_of (g.J.Journals.journal c.args.journals.now) (g.J.Launchers.startable c.args.journals.now) in
    let path = string_bytes c.args.path in
    let IsDue : List ℕ → Type 0 = λ text. (s : Status) × IsAnswer may_hear c.args.canvas files machine c.args.command text s in
    let before = g.F.Folder.left c.args.folder.now in
    let after = g.F.Folder.left c.discard_page-reason.new.folder in
    subst (λ (f : CommandFault). LeavesFiled IsDue before after f) (sym c.fault_of_filed_command.ensures)
    (unfiled_leaves may_lose files machine IsDue before after path c.args.command c.in-Err-answer_command.fault c.discard_page-reason.result c.in-Err-answer_command.ensures.fault (c.discard_page-reason.ensures.left ∙ c.in-Ok.ensures.left))
