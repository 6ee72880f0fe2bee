-- The text of an instance grows by each line of what it was given.
use Rattle.std.proofs.Common.{◌≡◌, ℕ, ◌+◌, List, [], ◌∷◌, ◌++◌, None, Some, length, decimal, sym, ap, ◌∙◌, append_assoc, append-nil, arith}
use Rattle.std.proofs.lemmas.List.{flat_map_more}
use Rattle.std.specs.List.{flat_map}
use Rattle.bf_value.specs.declared.xval.Xval.{Xval}
use Rattle.bf_report.specs.declared.report.Pull.{Pull}
use Rattle.bf_report.specs.declared.report.InstanceReport.{InstanceReport}
use Rattle.bf_report.specs.Report.{instance_line, instance_text, item_line, pull_line, mapped_text}
use Rattle.bf_report.proofs.ReportFacts.{numbered_more}

-- one more pull
pub pull_more : (id index : List ℕ) (x : InstanceReport) (pull : Pull) → instance_text id index (record x { pulls = x.pulls ++ pull ∷ [] }) ≡ instance_text id index x ++ pull_line pull
pull_more id index x pull =
    let line : List ℕ = instance_line id index x.result in
    let item : List ℕ = item_line x.item in
    ap (λ t. line ++ t) (sym (flat_map_more pull_line item x.pulls pull))
    ∙ sym (append_assoc line (item ++ flat_map pull_line x.pulls) (pull_line pull))

-- the item
pub item_more : (id index : List ℕ) (x : InstanceReport) (item : Xval) → x.item ≡ None → x.pulls ≡ [] → instance_text id index (record x { item = Some item }) ≡ instance_text id index x ++ item_line (Some item)
item_more id index x item none bare =
    let line : List ℕ = instance_line id index x.result in
    let without : instance_text id index x ≡ line =
    ap (λ i. line ++ (item_line i ++ flat_map pull_line x.pulls)) none ∙ (ap (λ ps. line ++ flat_map pull_line ps) bare ∙ append-nil line) in
    ap (λ ps. line ++ (item_line (Some item) ++ flat_map pull_line ps)) bare
    ∙ (ap (λ t. line ++ t) (append-nil (item_line (Some item))) ∙ ap (λ t. t ++ item_line (Some item)) (sym without))

-- the text of the last instance of an expanded task has grown, and so has the text of the task
pub last_more : (id : List ℕ) (xs : List InstanceReport) (x y : InstanceReport) (more : List ℕ) → ((index : List ℕ) → instance_text id index y ≡ instance_text id index x ++ more) →
    mapped_text id (xs ++ y ∷ []) ≡ mapped_text id (xs ++ x ∷ []) ++ more
last_more id xs x y more same =
    let f : ℕ × InstanceReport → List ℕ = λ p. instance_text id (decimal p.0) p.1 in
    let last : List ℕ = decimal (length xs) in
    let number : length xs ≡ 0 + length xs = omega arith in
    numbered_more f 0 (length xs) xs y number
    ∙ (ap (λ t. mapped_text id xs ++ t) (same last)
    ∙ (sym (append_assoc (mapped_text id xs) (instance_text id last x) more)
    ∙ ap (λ t. t ++ more) (sym (numbered_more f 0 (length xs) xs x number))))
