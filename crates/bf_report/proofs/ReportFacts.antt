-- Lines of a report, one more at a time.
use Rattle.std.proofs.Common.{◌≡◌, ℕ, ◌+◌, ◌<◌, List, [], ◌∷◌, ◌++◌, length, take, get_or, decimal, refl, sym, ap, ◌∙◌, append_assoc, append-nil, arith}
use Rattle.std.proofs.lemmas.List.{take_more}
use Rattle.std.specs.List.{flat_map, enumerate_from}
use Rattle.std.proofs.Math.ListN.{length-take}
use Rattle.bf_report.specs.declared.report.InstanceReport.{InstanceReport}
use Rattle.bf_report.specs.Report.{mapped_text, instance_text, tasks_text}
use Rattle.bf_report.specs.declared.report.TaskReport.{TaskReport}

-- one item more with its number
pub numbered_more : {X : Type 0} (f : ℕ × X → List ℕ) (n m : ℕ) (xs : List X) (x : X) → m ≡ n + length xs → flat_map f (enumerate_from n (xs ++ x ∷ [])) ≡ flat_map f (enumerate_from n xs) ++ f (m, x)
numbered_more f n m [] x e = let same : n ≡ m = omega arith in append-nil (f (n, x)) ∙ ap (λ k. f (k, x)) same
numbered_more f n m (y ∷ ys) x e =
    ap (λ t. f (n, y) ++ t) (numbered_more f (n + 1) m ys x (omega arith)) ∙ sym (append_assoc (f (n, y)) (flat_map f (enumerate_from (n + 1) ys)) (f (m, x)))

pub mapped_text_more : (before id : List ℕ) (instances : List InstanceReport) (i : ℕ) (x : InstanceReport) → i < length instances → x ≡ get_or instances i x → (before ++ mapped_text id (take i instances)) ++ instance_text id (decimal i) x ≡ before ++ mapped_text id (take (i + 1) instances)
mapped_text_more before id instances i x inside e =
    let f : ℕ × InstanceReport → List ℕ = λ p. instance_text id (decimal p.0) p.1 in
    let all : take (i + 1) instances ≡ take i instances ++ x ∷ [] = take_more instances i x inside ∙ ap (λ y. take i instances ++ y ∷ []) (sym e) in
    let size : length (take i instances) ≡ i = omega (arith, length-take i instances) in
    append_assoc before (mapped_text id (take i instances)) (instance_text id (decimal i) x)
    ∙ ap (λ t. before ++ t) (sym (numbered_more f 0 i (take i instances) x (omega arith)))
    ∙ ap (λ xs. before ++ mapped_text id xs) (sym all)

pub no_ids : (ids : List (List ℕ)) (tasks : List TaskReport) → length ids ≡ 0 → tasks_text ids tasks ≡ []
no_ids [] tasks e = refl
no_ids (id ∷ ids) tasks e = absurd (omega arith)

pub no_tasks : (ids : List (List ℕ)) (tasks : List TaskReport) → length tasks ≡ 0 → tasks_text ids tasks ≡ []
no_tasks [] [] e = refl
no_tasks (id ∷ ids) [] e = refl
no_tasks ids (task ∷ tasks) e = absurd (omega arith)

-- all that was to come came, and nothing is left
pub all_came : {X : Type 0} (all before rest : List X) → all ≡ before ++ rest → rest ≡ [] → before ≡ all
all_came all before rest e none = sym (e ∙ ap (λ xs. before ++ xs) none ∙ append-nil before)
