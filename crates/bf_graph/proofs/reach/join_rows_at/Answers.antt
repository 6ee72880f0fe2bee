use Rattle.std.proofs.Common.{length, ap, ◌∙◌, sym, refl, arith, ◌||◌}
use Rattle.std.proofs.lemmas.List.Elements.{Contains-get_or}
use Rattle.bf_graph.specs.Reach.{is_marked_in}
use Rattle.bf_graph.proofs.ReachLemmas.{none_joined, one_joined, all_joined, row_read}
use Rattle.bf_graph.proofs.reach.join_rows_at.Goals as goal

pub bounds-rows-u : goal.bounds-rows-u
bounds-rows-u c = c.requires.in_range _ (Contains-get_or _ _ 0 c.loop-u-test.true)

pub loop-u-init : goal.loop-u-init
loop-u-init c = none_joined _ _ _ _ c.in_ok-row.ensures.len c.in_ok-row.ensures.clear

pub add_marks_of-requires : goal.add_marks_of-requires
add_marks_of-requires c =
    let one = Contains-get_or c.args.upstreams.now c.loop-u.u-index 0 c.loop-u-test.true in
    let read = row_read c.args.rows.now _ _ _ (c.requires.in_range _ one) c.index-rows-u.is c.as_slice.ensures.value in
    ap length read ∙ c.requires.full _ one ∙ sym c.loop-u.invariant.len

pub index_mut-requires : goal.index_mut-requires
index_mut-requires c =
    let within = c.requires.in_range _ (Contains-get_or c.args.upstreams.now c.loop-u.u-index 0 c.loop-u-test.true) in
    let len = c.loop-u.invariant.len in
    let same = c.add_marks_of.ensures.len in
    omega (arith, within, len, same)

pub loop-u-preserved : goal.loop-u-preserved
loop-u-preserved c =
    let one = Contains-get_or c.args.upstreams.now c.loop-u.u-index 0 c.loop-u-test.true in
    let within = c.requires.in_range _ one in
    let read = row_read c.args.rows.now _ _ _ within c.index-rows-u.is c.as_slice.ensures.value in
    one_joined _ _ _ _ _ c.loop-u.row.items _ c.loop-u.invariant refl within c.add_marks_of.ensures.len (λ k. c.add_marks_of.ensures.marks k ∙ ap (λ xs. is_marked_in c.loop-u.row.items k || is_marked_in xs k) read)

pub returns : goal.returns
returns c = all_joined _ _ _ _ _ c.loop-u-test.false c.loop-u.auto.u-index-end c.loop-u.invariant
