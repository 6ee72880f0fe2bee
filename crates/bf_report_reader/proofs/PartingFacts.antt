-- What is known of a run by its parts.
use Rattle.std.proofs.Common.{◌≡◌, ◌<◌, ◌==◌, ◌-◌, ◌+◌, ℕ, zero, suc, true, false, List, [], ◌∷◌, ◌++◌, length, get_or, slice_get, slice_set, Option, None, Some, is_some, option_map, option_copied, unwrap_or, Bor, refl, sym, ap, ◌∙◌, append-nil, arith}
use Rattle.std.specs.Prelude.{IfSome, IfNone}
use Rattle.std.proofs.lemmas.List.{length-append}
use Rattle.std.proofs.Math.Seq.{set-append_seam}
use Rattle.bf_value.specs.declared.xval.Xval.{Xval}
use Rattle.bf_xcom.specs.declared.values.TaskResult.{TaskResult}
use Rattle.bf_report.specs.declared.report.InstanceReport.{InstanceReport}
use Rattle.bf_report.specs.declared.report.TaskReport.{TaskReport}
use Rattle.bf_report.specs.declared.report.Version.{Version}
use Rattle.bf_report.specs.declared.report.RunReport.{RunReport}
use Rattle.bf_report_reader.specs.declared.entry.Untried.{Untried}
use Rattle.bf_report_reader.specs.declared.part.GivenPart.{GivenPart}
use Rattle.bf_report_reader.specs.Open.{OpenTask, RunSoFar}
use Rattle.bf_report_reader.specs.Parting.{parted_with, parted, expanded_by, open_by, last_open, open_in, shut_with, shut_by, shut_in, run_so_far}
use Rattle.bf_report_reader.specs.Beginning.{open_task, task_count_of, closed, never_report, has_item, is_given_task, is_further_task, further, untold, put_task, put_open, put_further}
use Rattle.bf_report_reader.specs.inner.Beginning.{takes_at, takes_task, told, with_told, put_part}
use Rattle.bf_report_reader.specs.inner.Lasts.{put_last, at_last, told_task, further_task}
use Rattle.bf_report_reader.proofs.Growth.{get_last, count_is}

-- ---- the last

pub parted_push : {X : Type 0} (xs : List X) (x : X) → parted (xs ++ x ∷ []) ≡ Some (xs, x)
parted_push [] x = refl
parted_push (y ∷ ys) x = ap (parted_with y) (parted_push ys x)

-- these are the parts
abbrev pub IsParted : {X : Type 0} → List X → Option (List X × X) → Type 0
IsParted xs None = xs ≡ []
IsParted xs (Some (front, last)) = xs ≡ front ++ last ∷ []

pub parted_is : {X : Type 0} (xs : List X) → IsParted xs (parted xs)
parted_is [] = refl
parted_is (x ∷ xs) = more x xs (parted xs) (parted_is xs)
  where
    more : {X : Type 0} (x : X) (xs : List X) (parts : Option (List X × X)) → IsParted xs parts → IsParted (x ∷ xs) (parted_with x parts)
    more x xs None is = ap (λ l. x ∷ l) is
    more x xs (Some (front, last)) is = ap (λ l. x ∷ l) is

-- where the last stands
abbrev tail_of : {X : Type 0} → Option (List X × X) → Option X
tail_of None = None
tail_of (Some (front, last)) = Some last

tail_is : {X : Type 0} (xs : List X) (parts : Option (List X × X)) → IsParted xs parts → slice_get xs (length xs - 1) ≡ tail_of parts
tail_is xs None is = rw is refl
tail_is xs (Some (front, last)) is =
    let long : length xs ≡ length front + 1 = ap length is ∙ length-append front (last ∷ []) in
    rw is (get_last front last (length (front ++ last ∷ []) - 1) (omega (arith, length-append front (last ∷ []))))

got_is : {X : Type 0} (xs : List X) (n : ℕ) (x : X) → n < length xs → slice_get xs n ≡ Some (get_or xs n x)
got_is [] n x less = absurd (omega (arith, less))
got_is (y ∷ ys) zero x less = refl
got_is (y ∷ ys) (suc n) x less = got_is ys n x (omega (arith, less))

-- another takes the place of the last
pub set_last : {X : Type 0} (xs : List X) (n : ℕ) (x y : X) (change : X → X) → n ≡ length xs → x ≡ get_or xs (n - 1) x → y ≡ change x → slice_set xs (n - 1) y ≡ at_last change xs
set_last {X = X} xs n x y change long is new = by (parted xs) (parted_is xs)
  where
    by : (parts : Option (List X × X)) → IsParted xs parts → slice_set xs (n - 1) y ≡ put_last change parts
    by None none = rw none refl
    by (Some (front, last)) ends =
        let seam : n - 1 ≡ length front = omega (arith, long, ap length ends, length-append front (last ∷ [])) in
        let at : Some (get_or xs (n - 1) x) ≡ Some last = sym (got_is xs (n - 1) x (omega (arith, long, seam, ap length ends, length-append front (last ∷ [])))) ∙ ap (λ l. slice_get l (n - 1)) ends ∙ get_last front last (n - 1) seam in
        let same : x ≡ last = is ∙ ap (λ o. unwrap_or o x) at in
        ap (λ l. slice_set l (n - 1) y) ends ∙ ap (λ k. slice_set (front ++ last ∷ []) k y) seam ∙ set-append_seam front last [] y ∙ ap (λ z. front ++ z ∷ []) (new ∙ ap change same)

put_same : {X : Type 0} (xs : List X) (parts : Option (List X × X)) → IsParted xs parts → put_last (λ z. z) parts ≡ xs
put_same xs None none = sym none
put_same xs (Some (front, last)) ends = sym ends

-- the last is put back
pub same_last : {X : Type 0} (xs : List X) (n : ℕ) (x y : X) → n ≡ length xs → x ≡ get_or xs (n - 1) x → y ≡ x → slice_set xs (n - 1) y ≡ xs
same_last xs n x y long is same = set_last xs n x y (λ z. z) long is same ∙ put_same xs (parted xs) (parted_is xs)

-- ---- all tasks

mapped_back : (front : List TaskReport) (xs : List InstanceReport) (parts : Option (List InstanceReport × InstanceReport)) → IsParted xs parts →
    shut_with front (TaskReport.Mapped xs) (expanded_by parts) ++ open_task (expanded_by parts) ≡ front ++ TaskReport.Mapped xs ∷ []
mapped_back front xs None is = append-nil (front ++ TaskReport.Mapped xs ∷ [])
mapped_back front xs (Some (before, last)) is = ap (λ ys. front ++ TaskReport.Mapped ys ∷ []) (sym is)

task_back : (front : List TaskReport) (t : TaskReport) → shut_with front t (open_by t) ++ open_task (open_by t) ≡ front ++ t ∷ []
task_back front TaskReport.NoStatus = append-nil (front ++ TaskReport.NoStatus ∷ [])
task_back front TaskReport.Skipped = append-nil (front ++ TaskReport.Skipped ∷ [])
task_back front TaskReport.UpstreamFailed = append-nil (front ++ TaskReport.UpstreamFailed ∷ [])
task_back front (TaskReport.Ran x) = refl
task_back front (TaskReport.Mapped xs) = mapped_back front xs (parted xs) (parted_is xs)

tasks_back : (tasks : List TaskReport) (parts : Option (List TaskReport × TaskReport)) → IsParted tasks parts → shut_by parts ++ open_task (last_open parts) ≡ tasks
tasks_back tasks None is = sym is
tasks_back tasks (Some (front, last)) is = task_back front last ∙ sym is

tasks_seen : (tasks : List TaskReport) → shut_in tasks ++ open_task (open_in tasks) ≡ tasks
tasks_seen tasks = tasks_back tasks (parted tasks) (parted_is tasks)

pub closed_seen : (r : RunReport) → closed (run_so_far r) ≡ r
closed_seen r = ap (λ ts. record r { tasks = ts }) (tasks_seen r.tasks)

pub count_seen : (r : RunReport) → length r.tasks ≡ task_count_of (run_so_far r)
count_seen r = ap length (sym (tasks_seen r.tasks)) ∙ count_is (run_so_far r)

pub seen_empty : (r : RunReport) → r.tasks ≡ [] → run_so_far r ≡ record { run = r; task = None }
seen_empty r none = ap run_so_far bare ∙ ap (λ (x : RunReport). record { run = x; task = None }) (sym bare)
  where
    bare : r ≡ record r { tasks = [] }
    bare = ap (λ ts. record r { tasks = ts }) none

-- ---- the last task

abbrev opened : Option TaskReport → Option OpenTask
opened None = None
opened (Some t) = open_by t

pub last_opens : (tasks : List TaskReport) → open_in tasks ≡ opened (slice_get tasks (length tasks - 1))
last_opens tasks = by (parted tasks) ∙ ap opened (sym (tail_is tasks (parted tasks) (parted_is tasks)))
  where
    by : (parts : Option (List TaskReport × TaskReport)) → last_open parts ≡ opened (tail_of parts)
    by None = refl
    by (Some (front, last)) = refl

pub found_open : (found : Option (Bor TaskReport)) (tasks : List TaskReport) (task : Option OpenTask) → option_copied found ≡ slice_get tasks (length tasks - 1) → open_in tasks ≡ task → IfSome found (λ t. open_by t.now ≡ task)
found_open None tasks task is same = tt
found_open (Some t) tasks task is same = ap opened is ∙ sym (last_opens tasks) ∙ same

pub found_none : (found : Option (Bor TaskReport)) (tasks : List TaskReport) (task : Option OpenTask) → option_copied found ≡ slice_get tasks (length tasks - 1) → open_in tasks ≡ task → IfNone found (task ≡ None)
found_none None tasks task is same = sym same ∙ last_opens tasks ∙ ap opened (sym is)
found_none (Some t) tasks task is same = tt

-- ---- the last instance of an expanded task

last_is : (parts : Option (List InstanceReport × InstanceReport)) (x : InstanceReport) → tail_of parts ≡ Some x → (front : List InstanceReport) × (parts ≡ Some (front, x))
last_is None x is = absurd (cc is)
last_is (Some (front, last)) x is = (front, ap (λ l. Some (front, unwrap_or l last)) is)

-- it is the last of those before it and itself
ends_with : (xs : List InstanceReport) (x : InstanceReport) → slice_get xs (length xs - 1) ≡ Some x → (front : List InstanceReport) × (parted xs ≡ Some (front, x))
ends_with xs x is = last_is (parted xs) x (sym (tail_is xs (parted xs) (parted_is xs)) ∙ is)

-- what was found last
pub found_last : (found : Option (Bor InstanceReport)) (xs all : List InstanceReport) (x : Bor InstanceReport) → xs ≡ all → option_copied found ≡ slice_get xs (length xs - 1) → found ≡ Some x →
    slice_get all (length all - 1) ≡ Some x.now
found_last found xs all x same last is = ap (λ ys. slice_get ys (length ys - 1)) (sym same) ∙ sym last ∙ ap option_copied is

pub item_told : (found : Option (Bor Xval)) (item : Option Xval) → option_copied found ≡ item → is_some found ≡ has_item true item
item_told None item is = ap (has_item true) is
item_told (Some x) item is = ap (has_item true) is

pub mapped_given : (xs : List InstanceReport) (x : InstanceReport) → slice_get xs (length xs - 1) ≡ Some x → is_given_task Version.Two (open_by (TaskReport.Mapped xs)) ≡ has_item true x.item
mapped_given xs x is = let (front, ends) = ends_with xs x is in ap (λ parts. is_given_task Version.Two (expanded_by parts)) ends

pub mapped_takes : (version : Version) (xs : List InstanceReport) (x : InstanceReport) (part : GivenPart) → slice_get xs (length xs - 1) ≡ Some x →
    takes_task version (open_by (TaskReport.Mapped xs)) part ≡ takes_at version (is_given_task version (open_by (TaskReport.Mapped xs))) x part
mapped_takes version xs x part is =
    let (front, ends) = ends_with xs x is in
    let opens : open_by (TaskReport.Mapped xs) ≡ Some (record { before = Some front; instance = x }) = ap expanded_by ends in
    ap (λ t. takes_task version t part) opens ∙ ap (λ t. takes_at version (is_given_task version t) x part) (sym opens)

pub mapped_next : (xs : List InstanceReport) (index : ℕ) → 0 < index → (length xs == index) ≡ is_further_task (open_by (TaskReport.Mapped xs)) index
mapped_next xs index some = by (parted xs) (parted_is xs)
  where
    by : (parts : Option (List InstanceReport × InstanceReport)) → IsParted xs parts → (length xs == index) ≡ is_further_task (expanded_by parts) index
    by None is = ap (λ (ys : List InstanceReport). length ys == index) is ∙ grind (arith, some)
    by (Some (front, last)) is = ap (λ n. n == index) (ap length is ∙ length-append front (last ∷ []))

-- ---- one task more

-- a run by its tasks before the last, the last, and whether it may have more lines
abbrev seen_with : RunReport → List TaskReport → TaskReport → Option OpenTask → RunSoFar
seen_with r front t task = record { run = record r { tasks = shut_with front t task }; task = task }

seen_push : (r : RunReport) (front : List TaskReport) (t : TaskReport) → run_so_far (record r { tasks = front ++ t ∷ [] }) ≡ seen_with r front t (open_by t)
seen_push r front t = ap (λ parts. record { run = record r { tasks = shut_by parts }; task = last_open parts }) (parted_push front t)

adds_shut : (r : RunReport) (t : TaskReport) → open_by t ≡ None → put_task (Some (run_so_far r)) t ≡ Some (run_so_far (record r { tasks = r.tasks ++ t ∷ [] }))
adds_shut r t shut =
    ap (λ (c : RunReport). Some (record { run = record c { tasks = c.tasks ++ t ∷ [] }; task = None })) (closed_seen r)
    ∙ ap Some (ap (seen_with r r.tasks t) (sym shut) ∙ sym (seen_push r r.tasks t))

pub adds_never : (r : RunReport) (u : Untried) → put_task (Some (run_so_far r)) (never_report u) ≡ Some (run_so_far (record r { tasks = r.tasks ++ never_report u ∷ [] }))
adds_never r u = adds_shut r (never_report u) (shut u)
  where
    shut : (u : Untried) → open_by (never_report u) ≡ None
    shut Untried.NoStatus = refl
    shut Untried.Skipped = refl
    shut Untried.UpstreamFailed = refl

pub adds_open : (r : RunReport) (t : TaskReport) (task : OpenTask) → open_by t ≡ Some task → put_open (Some (run_so_far r)) task ≡ Some (run_so_far (record r { tasks = r.tasks ++ t ∷ [] }))
adds_open r t task opens =
    ap (λ (c : RunReport). Some (record { run = c; task = Some task })) (closed_seen r)
    ∙ ap Some (ap (seen_with r r.tasks t) (sym opens) ∙ sym (seen_push r r.tasks t))

-- ---- one instance more

false_is : {X : Type 0} → false ≡ true → X
false_is e = absurd (cc e)

further_mapped : (r : RunReport) (front : List TaskReport) (xs : List InstanceReport) (parts : Option (List InstanceReport × InstanceReport)) (index : ℕ) (ended : TaskResult) → IsParted xs parts →
    is_further_task (expanded_by parts) index ≡ true →
    record { run = record r { tasks = shut_with front (TaskReport.Mapped xs) (expanded_by parts) }; task = option_map (λ (t : OpenTask). further t ended) (expanded_by parts) }
    ≡ seen_with r front (further_task ended (TaskReport.Mapped xs)) (open_by (further_task ended (TaskReport.Mapped xs)))
further_mapped r front xs None index ended is next = false_is next
further_mapped r front xs (Some (before, last)) index ended is next =
    let new : TaskReport = TaskReport.Mapped (xs ++ untold ended ∷ []) in
    ap (λ ys. seen_with r front new (Some (record { before = Some ys; instance = untold ended }))) (sym is)
    ∙ ap (λ parts. seen_with r front new (expanded_by parts)) (sym (parted_push xs (untold ended)))

further_of : (r : RunReport) (front : List TaskReport) (t : TaskReport) (index : ℕ) (ended : TaskResult) → is_further_task (open_by t) index ≡ true →
    record { run = record r { tasks = shut_with front t (open_by t) }; task = option_map (λ (t : OpenTask). further t ended) (open_by t) } ≡ seen_with r front (further_task ended t) (open_by (further_task ended t))
further_of r front TaskReport.NoStatus index ended next = false_is next
further_of r front TaskReport.Skipped index ended next = false_is next
further_of r front TaskReport.UpstreamFailed index ended next = false_is next
further_of r front (TaskReport.Ran x) index ended next = false_is next
further_of r front (TaskReport.Mapped xs) index ended next = further_mapped r front xs (parted xs) index ended (parted_is xs) next

further_by : (r : RunReport) (parts : Option (List TaskReport × TaskReport)) (index : ℕ) (ended : TaskResult) → is_further_task (last_open parts) index ≡ true →
    put_further (Some (record { run = record r { tasks = shut_by parts }; task = last_open parts })) ended ≡ Some (run_so_far (record r { tasks = put_last (further_task ended) parts }))
further_by r None index ended next = false_is next
further_by r (Some (front, last)) index ended next = ap Some (further_of r front last index ended next ∙ sym (seen_push r front (further_task ended last)))

pub further_seen : (r : RunReport) (index : ℕ) (ended : TaskResult) → is_further_task (open_in r.tasks) index ≡ true → put_further (Some (run_so_far r)) ended ≡ Some (run_so_far (record r { tasks = at_last (further_task ended) r.tasks }))
further_seen r index ended next = further_by r (parted r.tasks) index ended next

-- ---- what an instance was given

told_mapped : (r : RunReport) (front : List TaskReport) (xs : List InstanceReport) (parts : Option (List InstanceReport × InstanceReport)) (part : GivenPart) → IsParted xs parts →
    record { run = record r { tasks = shut_with front (TaskReport.Mapped xs) (expanded_by parts) }; task = option_map (λ (t : OpenTask). told t part) (expanded_by parts) }
    ≡ seen_with r front (TaskReport.Mapped (put_last (λ x. with_told x part) parts)) (expanded_by (parted (put_last (λ x. with_told x part) parts)))
told_mapped r front xs None part is = ap (λ ys. record { run = record r { tasks = front ++ TaskReport.Mapped ys ∷ [] }; task = None }) is
told_mapped r front xs (Some (before, last)) part is =
    let new : TaskReport = TaskReport.Mapped (before ++ with_told last part ∷ []) in
    ap (λ parts. seen_with r front new (expanded_by parts)) (sym (parted_push before (with_told last part)))

told_of : (r : RunReport) (front : List TaskReport) (t : TaskReport) (part : GivenPart) →
    record { run = record r { tasks = shut_with front t (open_by t) }; task = option_map (λ (t : OpenTask). told t part) (open_by t) } ≡ seen_with r front (told_task part t) (open_by (told_task part t))
told_of r front TaskReport.NoStatus part = refl
told_of r front TaskReport.Skipped part = refl
told_of r front TaskReport.UpstreamFailed part = refl
told_of r front (TaskReport.Ran x) part = refl
told_of r front (TaskReport.Mapped xs) part = told_mapped r front xs (parted xs) part (parted_is xs)

told_by : (r : RunReport) (parts : Option (List TaskReport × TaskReport)) (part : GivenPart) →
    put_part (Some (record { run = record r { tasks = shut_by parts }; task = last_open parts })) part ≡ Some (run_so_far (record r { tasks = put_last (told_task part) parts }))
told_by r None part = refl
told_by r (Some (front, last)) part = ap Some (told_of r front last part ∙ sym (seen_push r front (told_task part last)))

pub told_seen : (r : RunReport) (part : GivenPart) → put_part (Some (run_so_far r)) part ≡ Some (run_so_far (record r { tasks = at_last (told_task part) r.tasks }))
told_seen r part = told_by r (parted r.tasks) part
