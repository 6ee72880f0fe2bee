-- What is told of what is found.
use Rattle.std.specs.Prelude.{ℕ, List, ◌++◌, codes, decimal, Option, Some, None}
use Rattle.bf_read.specs.declared.fault.ReadFault.{ReadFault}
use Rattle.bf_read.specs.declared.fault.ReadFault.TheVariants as read
use Rattle.bf_read.specs.declared.path.Path.TheVariants as path
use Rattle.bf_read.specs.Faults as reading
use Rattle.bf_check.specs.declared.fault.CheckFault.{CheckFault}
use Rattle.bf_check.specs.declared.fault.CheckFault.TheVariants as check
use Rattle.bf_check.specs.declared.fault.TaskFault.{TaskFault}
use Rattle.bf_check.specs.declared.fault.TaskFault.TheVariants.{UnknownUpstream, UnknownPool, SlotsBeyondPool, BadRule, PullNotSettled, ExpandSource, ExpandRule, BranchMisuse}
use Rattle.bf_check.specs.Refusals as checking
use Rattle.bf_findings.specs.declared.form.Form.{Form}
use Rattle.bf_findings.specs.declared.hint.Hint.{Hint}
use Rattle.bf_findings.specs.declared.hint.Hint.TheVariants as hint
use Rattle.bf_cron.specs.declared.field.Field.{Field}
use Rattle.bf_cron.specs.declared.field.Field.TheVariants.{Minute, Hour, Day, Month, Weekday}
use Rattle.bf_findings.specs.declared.finding.Fault.{Fault}
use Rattle.bf_findings.specs.declared.finding.Finding.{Finding}
use Rattle.bf_findings.specs.declared.finding.Finding.TheVariants as finding
use Rattle.bf_findings.specs.declared.refusal.Refusal.{Refusal}
use Rattle.bf_findings.specs.declared.refusal.Refusal.TheVariants as refusal
use Rattle.bf_findings.specs.Places.{place_text}
use Rattle.bf_findings.specs.Forms.{form_text}

-- a suggested name
abbrev pub meant_text : List ℕ → List ℕ
meant_text name = codes "did you mean \"" ++ name ++ codes "\"?"

-- what a field of a schedule may be, behind its name
abbrev pub field_words : Field → List ℕ
field_words Minute = codes "minute: has to be *, */n, or numbers from 0 to 59, each alone or as a-b or a-b/n, with commas between"
field_words Hour = codes "hour: has to be *, */n, or numbers from 0 to 23, each alone or as a-b or a-b/n, with commas between"
field_words Day = codes "day of the month: has to be *, */n, or numbers from 1 to 31, each alone or as a-b or a-b/n, with commas between"
field_words Month = codes "month: has to be *, */n, or numbers from 1 to 12 or names as jan, each alone or as a-b or a-b/n, with commas between"
field_words Weekday = codes "weekday: has to be *, */n, or numbers from 0 to 7 or names as mon, each alone or as a-b or a-b/n, with commas between"

-- what is told in place of what may stand there
abbrev pub hint_text : Hint → List ℕ
hint_text (hint.Meant name) = meant_text name
hint_text hint.NoZoneFile = codes "--zone-file PATH is missing"
hint_text (hint.BadField field) = field_words field

-- a hint, or what may stand there
abbrev pub ending : Form → Option Hint → List ℕ
ending form None = form_text form
ending form (Some hint) = hint_text hint

-- where it is, what stands there, and what may
abbrev pub fault_text : Fault → List ℕ
fault_text fault =
    (place_text fault.place ++ (codes ": " ++ (fault.stands ++ codes ": ")))
    ++ ending fault.form fault.hint

-- ---- why a file is refused in which nothing else is found

abbrev pub why_read : ReadFault → List ℕ
why_read (read.LimitPassed path.Bytes) = codes "a graph file has at most 8388608 bytes"
why_read (read.LimitPassed _) =
    codes "a file has at most 20000 distinct edges, and a command pulls from at most 16 tasks"
why_read _ = codes "no graph file is of this form"

abbrev pub why_task : TaskFault → List ℕ
why_task UnknownUpstream = codes "it comes after a task that isn't there"
why_task UnknownPool = codes "its pool isn't there"
why_task SlotsBeyondPool = codes "it takes more slots than its pool has"
why_task BadRule = codes "its rule is none"
why_task PullNotSettled =
    codes "it pulls from a task that needn't have ended when this one is decided"
why_task ExpandSource = codes "it is expanded over a task that isn't directly upstream"
why_task ExpandRule = codes "its rule may decide it before all upstreams have ended"
why_task BranchMisuse = codes "a branch can't be expanded"

abbrev pub why_check : CheckFault → List ℕ
why_check (check.Task fault id) = why_task fault
why_check (check.Cycle ids) =
    codes "each comes after the one before it, and the first after the last"
why_check check.BadCron = codes "the schedule is none"
why_check check.NeverFires = codes "no day matches the schedule"
why_check check.BadZone = codes "the zone is none"
why_check check.OutOfMemory = codes "no memory was left"

-- the words of the refusal, and why
abbrev pub refusal_text : Refusal → List ℕ
refusal_text (refusal.Read fault) = reading.fault_text fault ++ codes ": " ++ why_read fault
refusal_text (refusal.Check fault) = checking.fault_text fault ++ codes ": " ++ why_check fault
refusal_text (refusal.Pull fault pulled) =
    checking.fault_text fault ++ (codes ": " ++ (why_check fault ++ (codes ": " ++ pulled)))

-- the line, but for its end
abbrev pub finding_text : Finding → List ℕ
finding_text (finding.NotJson line column) =
    codes "bytes: not JSON: line " ++ decimal line ++ codes ", column " ++ decimal column
finding_text (finding.Fault fault) = fault_text fault
finding_text (finding.Refused refusal) = refusal_text refusal
finding_text finding.More = codes "and more"
