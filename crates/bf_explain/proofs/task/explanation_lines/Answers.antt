use Rattle.std.proofs.Common.{ℕ, ℤ, rules, SFits, w32, List, [], ◌∷◌, ◌++◌, Option, codes, map, ap, ap₂, ◌∙◌, subst}
use Rattle.std.specs.Option.{option_copied}
use Rattle.std.proofs.lemmas.Int.{to_z-of_z}
use Rattle.bf_report.specs.declared.report.InstanceReport.{InstanceReport}
use Rattle.bf_roots.specs.declared.step.Root.{Root}
use Rattle.bf_why.specs.Decided.{id_of}
use Rattle.bf_explain.specs.ByHand.{AreHandLines, index_in}
use Rattle.bf_explain.specs.Clearing.{AreClearSections, has_failure_in, place_told_of, places_to_clear_in}
use Rattle.bf_explain.specs.Headings.{heading_of_state, instance_in, place_in}
use Rattle.bf_explain.specs.Sections.{section}
use Rattle.bf_explain.specs.Tasks.{beside_sections, own_sections, why_section}
use Rattle.bf_explain.proofs.task.explanation_lines.Goals as goal

pub returns : goal.returns
returns c =
    let dag = c.args.plan.now.dag in let report = c.args.report.now in let told_run = c.args.told_run.now in
    let run = c.args.run in let task = c.args.task in let told = c.args.told.now in
    let hand = c.in_ok-hand.hand.items in let clear = c.in_ok-clear.clear.items in
    let roots = c.in_ok-roots.roots.items in
    let slice = c.as_slice-roots.ensures.value in
    let place = c.place_of-place.ensures in
    let instance = c.instance_of-instance.ensures ∙ ap₂ instance_in c.task_report.ensures place in
    let at = c.index_of-at.ensures ∙ ap (λ t. index_in t c.args.index) c.task_report-2.ensures in
    let fits : SFits w32 c.index_of-at.result = search rules in
    let clocks = map (λ clock. clock.at.nanosecond) c.args.clocks.now in
    let told_hand = subst (λ (n : ℤ). AreHandLines dag told_run.interval report.version clocks run task n (option_copied c.instance_of-instance.result) hand) (to_z-of_z w32 c.index_of-at.result fits) c.in_ok-hand.ensures in
    record {
      roots = roots;
      hand = hand;
      clear = clear;
      are_roots = c.in_ok-roots.ensures;
      is_hand = subst (λ (n : ℤ). AreHandLines dag told_run.interval report.version clocks run task n (instance_in told (place_in c.args.index)) hand) at
          (subst (λ (i : Option InstanceReport). AreHandLines dag told_run.interval report.version clocks run task c.index_of-at.result i hand) instance told_hand);
      is_clear = subst (λ (rs : List Root). AreClearSections c.args.paths.now dag report run task (places_to_clear_in (place_told_of run task told c.args.index) (has_failure_in told (place_in c.args.index)) rs) clear) slice c.in_ok-clear.ensures;
      lines_are =
          c.in_ok-add_lines.ensures
          ∙ ap (λ (ls : List (List ℕ)). ls ++ clear) (c.in_ok-add_neighbours.ensures
          ∙ ap (λ (ls : List (List ℕ)). ls ++ beside_sections dag c.args.settled.now task) (c.in_ok-add_section.ensures
          ∙ ap (λ (ls : List (List ℕ)). ls ++ section (codes "by hand") c.as_slice.result.now) (c.in_ok-add_own_sections.ensures
          ∙ ap (λ (ls : List (List ℕ)). ls ++ own_sections told c.place_of-place.result) c.in_ok-lines.ensures)))
          ∙ (λ i. ((((heading_of_state (id_of dag task) told_run.interval.start.nanosecond told (place i) ∷ []
          ++ why_section dag report run told_run task told (place i) (slice i))
          ++ own_sections told (place i))
          ++ section (codes "by hand") (c.as_slice.ensures.value i))
          ++ beside_sections dag (c.requires.tasks i) task)
          ++ clear);
    }
