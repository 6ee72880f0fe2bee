use Rattle.std.proofs.Common.{List, Vec, ℕ, Bool, Global, string_bytes, length, ap, sym, ◌∙◌, subst, arith}
use Rattle.std.proofs.lemmas.List.{length-map}
use Rattle.bf_graph.specs.Edges.{lists, AreInRange}
use Rattle.bf_graph.specs.Lookups.{AreDownstreams}
use Rattle.bf_value.specs.Distinct.{AreDistinct}
use Rattle.bf_graph.proofs.AcyclicLemmas.{no_cycle}
use Rattle.bf_graph.proofs.ReachLemmas.{has_rows}
use Rattle.bf_graph.proofs.GraphLemmas.{sound_ranks}
use Rattle.bf_graph.proofs.graph.Graph.from_ranks_and_reach.Goals as goal

pub downstreams_of-requires-clause-in_range : goal.downstreams_of-requires-clause-in_range
downstreams_of-requires-clause-in_range c =
    let P : List (Vec ℕ Global) → Type 0 = λ es. AreInRange (lists es) in
    subst P (sym c.as_slice-2.ensures.value) c.requires.in_range

pub invariant_of-result : goal.invariant_of-result
invariant_of-result c =
    let found = c.requires.found.found in
    let ranks = sound_ranks c.args.edges.items _ _ _ found.right_ranks c.requires.in_range c.requires.found.all c.as_slice.ensures.value c.in_ok-ranks.ensures in
    let ids = c.in_ok-ids.ensures in
    let same = c.requires.same in
    let few = c.requires.few in
    let Q : List (Vec ℕ Global) → Type 0 = λ es. AreDownstreams (lists es) (lists c.in_ok-downstreams.downstreams.items) in
    let below = subst Q c.as_slice-2.ensures.value c.in_ok-downstreams.ensures in
    record {
      distinct = subst AreDistinct (sym ids) c.requires.distinct;
      one_id_each = ap length ids ∙ length-map c.args.ids.items string_bytes ∙ same;
      below = below;
      right_leaves = c.in_ok-leaves.ensures _ (subst (AreDownstreams _) (ap lists (sym c.as_slice-3.ensures.value)) below);
      one_rank_each = ranks.1;
      ranked = ranks.0;
      reached = has_rows _ _ _ _ found.right_ranks.len (length-map c.args.found.rows.items (λ (w : Vec Bool Global). w.items) ∙ found.one_row_each) found.right_rows c.requires.found.all;
      few = omega (arith, same, few);
    }

pub returns-clause-acyclic : goal.returns-clause-acyclic
returns-clause-acyclic c =
    let ranks = sound_ranks c.args.edges.items _ _ _ c.requires.found.found.right_ranks c.requires.in_range c.requires.found.all c.as_slice.ensures.value c.in_ok-ranks.ensures in
    no_cycle _ _ ranks.0
