use Rattle.std.proofs.Common.{◌≡◌, ◌||◌, Bool, true, false, [], Some, refl, sym, ap, ap₂, ◌∙◌, w32, to_z, of_z}
use Rattle.std.proofs.lemmas.Int.{to_z-of_z}
use Rattle.bf_graph.specs.Reach.{row_at}
use Rattle.bf_dependents.specs.Dependents.{has_seed_in}
use Rattle.bf_dependents.specs.Marks.{follows_in, marks_before_in}
use Rattle.bf_dependents.proofs.found.Followers.follows_if_touched.Goals as goal
use Rattle.bf_dependents.proofs.found.Followers.follows_if_touched.Goals.{then-follows, else-follows}

-- of three of which the first and the last are false
middle : (a b c : Bool) → a ≡ false → c ≡ false → b ≡ a || (b || c)
middle false true c e f = refl
middle false false false e f = refl
middle false false true e f = sym f
middle true b c e f = absurd (cc)

pub returns-else-has_seed : goal.returns-else-has_seed
returns-else-has_seed c =
    elim c.if-follows.branch [
      | then-follows w ↦ cc
      | else-follows w ↦
          let index : to_z w32 (of_z w32 c.args.index) ≡ c.args.index = to_z-of_z w32 c.args.index c.ranges.index in
          let touched = c.as_slice-rows.ensures ∙ ap (λ all. all.touched) c.self.view_is in
          let before = c.marks_before.ensures ∙ ap (λ rows. marks_before_in rows c.args.run) touched in
          let marks = c.marks_at.ensures ∙ ap (λ rows. row_at rows c.args.run) touched in
          c.has_seed-else-has_seed.ensures ∙ ap (λ i. has_seed_in c.args.self.now.seeds c.args.run c.args.task (Some i)) index
          ∙ middle _ _ _ (sym w.has_seed.ensures ∙ sym w.value-is ∙ c.if-has_seed.false)
          (sym (c.follows.ensures ∙ ap₂ (follows_in c.args.dag.now c.args.task []) before marks) ∙ w.if-follows.false)
    ]
