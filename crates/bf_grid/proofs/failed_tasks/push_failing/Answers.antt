use Rattle.std.proofs.Common.{◌≡◌, ℕ, List, ◌∷◌, ◌++◌, OnOk, codes, length, take, drop, map, min, slice_get, option_copied, sym, ap, ◌∙◌, subst, arith}
use Rattle.std.specs.List.{flat_map}
use Rattle.bf_grid.specs.declared.failed_tasks.Failing.{Failing}
use Rattle.bf_grid.specs.FailedTasks.{failing_of, failing_line, failing_text, further_line, id_width_of}
use Rattle.bf_grid.specs.inner.FoundTasks.{pair_of}
use Rattle.bf_wording.specs.Numbers.{count_text_of}
use Rattle.bf_grid.proofs.FoundFacts.{failing_told, first_of}
use Rattle.bf_grid.proofs.failed_tasks.push_failing.Goals as goal

pub returns : goal.returns
returns c =
    let before : List ℕ = c.args.text.now.items in
    let dag = c.args.dag.now in
    let found : List Failing = c.in_ok-found.found.items in
    let first : Failing = c.in-Some.first.now in
    let told : ℕ = c.min-told.result in
    let widest : ℕ = c.in_ok-widest.widest in
    let is : found ≡ first ∷ drop 1 found = first_of found first (ap (λ xs. slice_get xs 0) (sym c.deref.ensures.value) ∙ sym c.first.ensures.value ∙ ap option_copied c.in-Some.is) in
    let turned : min (length found) 20 ≡ min 20 (length found) = omega arith in
    let few : told ≡ min 20 (length found) = c.min-told.ensures ∙ ap (λ n. min n 20) (c.len-2.ensures ∙ c.in_ok-found.found.ok.0) ∙ turned in
    let wide : widest ≡ length (count_text_of (length first.starts.items) (codes "run")) = c.in_ok-widest.ensures ∙ ap (λ n. length (count_text_of n (codes "run"))) (c.len.ensures ∙ first.starts.ok.0) in
    let all : c.len-3.result ≡ length found = c.len-3.ensures ∙ c.in_ok-found.found.ok.0 in
    let lines_of : List Failing → List ℕ = λ fs. flat_map (failing_line dag (id_width_of dag (map pair_of (take told fs))) widest) (map pair_of (take told fs)) in
    let lines : c.push_lines.new.text.items ≡ (before ++ codes "\ntasks that failed themselves\n") ++ lines_of found =
    c.in_ok-push_lines.ensures ∙ ap (λ fs. c.push.new.text.items ++ lines_of fs) c.deref-2.ensures.value ∙ ap (λ t. t ++ lines_of found) c.in_ok-push.ensures in
    let whole : c.push_lines.new.text.items ++ further_line c.len-3.result ≡ before ++ failing_text dag (failing_of (map (λ run. run.now) c.args.runs.now) c.args.tasks.now) =
    ap (λ t. t ++ further_line c.len-3.result) lines ∙ failing_told dag before found first (drop 1 found) told widest c.len-3.result is few wide all ∙ ap (λ pairs. before ++ failing_text dag pairs) c.in_ok-found.ensures in
    subst (λ (s : List ℕ). OnOk c.push_further.result (c.push_further.new.text.items ≡ s)) whole c.push_further.ensures
