use Rattle.std.proofs.Common.{◌≡◌, true, false, sym, ◌∙◌}
use Rattle.bf_clear.specs.Matching.{is_report_in}
use Rattle.bf_clear.proofs.Equations.{matches_plan}
use Rattle.bf_clear.proofs.Within.{matches_within}
use Rattle.bf_clear.proofs.clearing.clear_places.Goals as goal

pub clear_places_within-requires : goal.clear_places_within-requires
clear_places_within-requires c =
    let dag = c.args.plan.now.dag in
    let intervals = c.args.runs.now in
    let report = c.args.report in
    let is : is_report_in dag intervals report ≡ true =
    (λ k. is_report_in (sym c.dag.ensures.dag k) (sym c.intervals.ensures.intervals k) report) ∙ (sym c.is_report_of.ensures ∙ c.if-not-is_report_of.false) in
    matches_within dag intervals report is

pub returns-then-not-is_report_of-clause-err : goal.returns-then-not-is_report_of-clause-err
returns-then-not-is_report_of-clause-err c =
    let dag = c.args.plan.now.dag in
    let intervals = c.args.runs.now in
    let report = c.args.report in
    let no : is_report_in dag intervals report ≡ false =
    (λ k. is_report_in (sym c.dag.ensures.dag k) (sym c.intervals.ensures.intervals k) report) ∙ (sym c.is_report_of.ensures ∙ c.if-not-is_report_of.true) in
    λ matches. let yes : is_report_in dag intervals report ≡ true = (matches_plan dag intervals report).1 matches in absurd (cc)

pub returns-clause-ok : goal.returns-clause-ok
returns-clause-ok c =
    let dag = c.args.plan.now.dag in
    let intervals = c.args.runs.now in
    let report = c.args.report in
    let is : is_report_in dag intervals report ≡ true =
    (λ k. is_report_in (sym c.dag.ensures.dag k) (sym c.intervals.ensures.intervals k) report) ∙ (sym c.is_report_of.ensures ∙ c.if-not-is_report_of.false) in
    (matches_plan dag intervals report).0 is
