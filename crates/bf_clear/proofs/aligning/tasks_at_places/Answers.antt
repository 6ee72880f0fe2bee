use Rattle.std.proofs.Common.{◌≡◌, ◌<◌, ◌++◌, ◌∷◌, [], ℕ, Option, None, get_or, length, map, take, sym, ap, ◌∙◌, arith}
use Rattle.std.proofs.lemmas.List.{map_more, take_all}
use Rattle.bf_report.specs.declared.report.TaskReport.{TaskReport}
use Rattle.bf_clear.specs.Aligning.{told_at}
use Rattle.bf_clear.proofs.aligning.tasks_at_places.Goals as goal

pub loop-i-preserved : goal.loop-i-preserved
loop-i-preserved c =
    let i = c.loop-i.i in
    let places = c.args.places.now in
    let f : Option ℕ → TaskReport = told_at c.args.told in
    let within : i < length places = c.loop-i-test.true in
    let place : Option ℕ = get_or places i None in
    let here : c.take_task_at.result ≡ f place = c.take_task_at.ensures.told ∙ c.loop-i.invariant.left i (omega arith) within in
    record {
      so_far = c.in_ok-push.ensures.items ∙ (ap (λ done. done ++ c.take_task_at.result ∷ []) c.loop-i.invariant.so_far ∙ (ap (λ last. map f (take i places) ++ last ∷ []) here ∙ sym (map_more f places i None within)));
      left = λ k le below. c.take_task_at.ensures.others (get_or places k None) (c.requires i k None (omega (arith, le)) below) ∙ c.loop-i.invariant.left k (omega (arith, le)) below;
    }

pub returns : goal.returns
returns c =
    let over = c.loop-i-test.false in
    c.from_vec.ensures ∙ (c.loop-i.invariant.so_far ∙ ap (map (told_at c.args.told)) (take_all c.loop-i.i c.args.places.now (omega (arith, over))))
