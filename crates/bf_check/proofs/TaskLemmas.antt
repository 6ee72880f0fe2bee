-- The tasks of a plan, of what was found of them.
use Rattle.std.proofs.Common.{◌≡◌, ℕ, ◌<◌, ◌++◌, ◌∷◌, List, get_or, length, slice_get, map, Option, Some, [], option_map, sym, ap, ◌∙◌, arith}
use Rattle.std.proofs.lemmas.List.{get_or-map, length-map}
use Rattle.std.proofs.lemmas.Option.{get_or_from_slice_get, slice_get-map, slice_get_within}
use Rattle.std.specs.List.{zip}
use Rattle.bf_graph.specs.Edges.{upstreams_of}
use Rattle.bf_graph.specs.Shape.{Shape}
use Rattle.bf_read.specs.declared.draft.TaskDraft.{TaskDraft}
use Rattle.bf_rule.specs.declared.rule.Rule.{Rule}
use Rattle.bf_check.specs.declared.pulls.Pulls.{Pulls}
use Rattle.bf_check.specs.Checking.{ids_of, number_or_0, rule_of, shape_in}
use Rattle.bf_check.specs.inner.Looks.{links_in, pulls_in, source_in, AreFound, HasLinks}
use Rattle.bf_plan.proofs.ListLemmas.{some_same}
use Rattle.bf_check.proofs.ListLemmas.{next_there, pair_at}

-- the upstreams of a task in the graph are those of its draft
pub upstreams_at : (tasks : List TaskDraft) (graph : Shape) (t : ℕ) (task : TaskDraft) → graph ≡ shape_in tasks → t < length tasks → get_or tasks t task ≡ task → upstreams_of graph.upstreams t ≡ map (number_or_0 (ids_of tasks)) task.upstreams
upstreams_at tasks graph t task is within here =
    let numbers = λ (d : TaskDraft). map (number_or_0 (ids_of tasks)) d.upstreams in
    ap (λ (s : Shape). upstreams_of s.upstreams t) is ∙ get_or-map numbers tasks t task [] within ∙ ap numbers here

-- what was found of a task makes its links
pub links_are : (drafts : List TaskDraft) (graph : Shape) (rules : List Rule) (pulls : List Pulls) (sources : List (Option ℕ)) → AreFound drafts graph rules pulls sources
    → (t : ℕ) (draft : TaskDraft) (pulled : Pulls) → slice_get (zip drafts pulls) t ≡ Some (draft, pulled) → (ups : List ℕ) → ups ≡ upstreams_of graph.upstreams t → (r : Rule) (o : Option ℕ)
    → record { upstreams = ups; rule = get_or rules t r; pulls = pulled; source = get_or sources t o } ≡ links_in (ids_of drafts) draft
links_are drafts graph rules pulls sources found t draft pulled there ups ups_are r o =
    let ids = ids_of drafts in
    let both = pair_at drafts pulls t draft pulled there in
    let within = slice_get_within drafts t draft both.0 in
    let here : get_or drafts t draft ≡ draft = get_or_from_slice_get drafts t draft draft both.0 in
    let above : ups ≡ map (number_or_0 ids) draft.upstreams = ups_are ∙ upstreams_at drafts graph t draft found.graph_is within here in
    let ruled : get_or rules t r ≡ rule_of draft = ap (λ (rs : List Rule). get_or rs t r) found.rules_are ∙ get_or-map rule_of drafts t draft r within ∙ ap rule_of here in
    let sourced : get_or sources t o ≡ source_in ids draft = ap (λ (os : List (Option ℕ)). get_or os t o) found.sources_are ∙ get_or-map (source_in ids) drafts t draft o within ∙ ap (source_in ids) here in
    let pulls_are : pulled ≡ pulls_in ids draft = some_same (sym both.1 ∙ ap (λ (ps : List Pulls). slice_get ps t) found.pulls_are ∙ slice_get-map (pulls_in ids) drafts t ∙ ap (option_map (pulls_in ids)) both.0) in
    λ i. record { upstreams = above i; rule = ruled i; pulls = pulls_are i; source = sourced i }

-- the draft that comes next, and what it pulls from, stand together behind those that came
pub comes_next : (drafts : List TaskDraft) (pulls : List Pulls) (came : List (TaskDraft × Pulls)) (left : List TaskDraft) (links : List Pulls) (ds : List TaskDraft) (ps : List Pulls) (draft : TaskDraft) (pulled : Pulls)
    → left ≡ draft ∷ ds → links ≡ pulled ∷ ps → came ++ zip left links ≡ zip drafts pulls → (t : ℕ) → t ≡ length came → slice_get (zip drafts pulls) t ≡ Some (draft, pulled)
comes_next drafts pulls came left links ds ps draft pulled e f all t at =
    ap (slice_get (zip drafts pulls)) at ∙ ap (λ (pairs : List (TaskDraft × Pulls)). slice_get pairs (length came)) (sym all ∙ ap (λ (pairs : List (TaskDraft × Pulls)). came ++ pairs) (λ i. zip (e i) (f i))) ∙ next_there came (zip ds ps) (draft, pulled)

module _ (drafts : List TaskDraft) (graph : Shape) (rules : List Rule) (pulls : List Pulls) (sources : List (Option ℕ)) (found : AreFound drafts graph rules pulls sources) (t : ℕ) (draft : TaskDraft) (pulled : Pulls) (there : slice_get (zip drafts pulls) t ≡ Some (draft, pulled)) where
  pub has_links : HasLinks graph rules sources t
  has_links =
      let within = slice_get_within drafts t draft (pair_at drafts pulls t draft pulled there).0 in
      let edges = ap (λ (s : Shape). length s.upstreams) found.graph_is ∙ length-map drafts (λ (task : TaskDraft). map (number_or_0 (ids_of drafts)) task.upstreams) in
      let ruled = ap length found.rules_are ∙ length-map drafts rule_of in
      let sourced = ap length found.sources_are ∙ length-map drafts (source_in (ids_of drafts)) in
      record { edged = omega (arith, within, edges); ruled = omega (arith, within, ruled); sourced = omega (arith, within, sourced) }

  pub pulls_found : pulled ≡ pulls_in (ids_of drafts) draft
  pulls_found =
      let both = pair_at drafts pulls t draft pulled there in
      let ids = ids_of drafts in
      some_same (sym both.1 ∙ ap (λ (ps : List Pulls). slice_get ps t) found.pulls_are ∙ slice_get-map (pulls_in ids) drafts t ∙ ap (option_map (pulls_in ids)) both.0)
