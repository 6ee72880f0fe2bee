use Rattle.std.proofs.Common.{◌≡◌, ℕ, ◌<◌, ◌+◌, ◌-◌, length, drop, option_map, arith, sym, ◌∙◌, subst}
use Rattle.std.specs.BTreeMap as tree
use Rattle.bf_table.specs.TableIndex.{first_of_key, pattern_cmp}
use Rattle.bf_table.proofs.IndexLemmas.{pattern_noted}
use Rattle.bf_table.proofs.table_index.firsts_of.Goals as goal

pub loop-number-preserved-in_ok-insert : goal.loop-number-preserved-in_ok-insert
loop-number-preserved-in_ok-insert c =
    let n = c.loop-number.number - 1 in
    let entries = c.args.entries.now in
    let within : n < length entries = omega (arith, c.loop-number.invariant.0, c.loop-number-test.true) in
    let next : n + 1 ≡ c.loop-number.number = omega (arith, c.loop-number-test.true) in (
      omega (arith, c.loop-number.invariant.0),
      λ key. pattern_noted c.args.graph.now.ids entries n c.index-entries-number.result within c.index-entries-number.is c.in-Some.pattern key _ _
          (sym c.pattern_of.ensures ∙ c.in-Some.is) (c.in_ok-insert.ensures.updates.0 key)
          (subst (λ (m : ℕ). tree.get pattern_cmp c.loop-number.firsts key ≡ option_map (λ k. m + k) (first_of_key c.args.graph.now.ids (drop m entries) key)) (sym next) (c.loop-number.invariant.1 key)),
    )
