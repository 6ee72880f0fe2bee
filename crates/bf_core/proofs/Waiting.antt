-- While no try runs, a backfill that hasn't ended has an event that may come, or a try that waits for a later moment.
use Rattle.std.proofs.Common.{◌≡◌, ◌⊎◌, ℕ, true, Option, None, Some, ℤ, refl, inl, inr}
use Rattle.std.proofs.lemmas.Int.{by_lt_z}
use Rattle.std.specs.FinMap as map
use Rattle.bf_plan.specs.Sound.{AreLimits}
use Rattle.bf_core.specs.Terms.{Event, Instance, JobName, Phase}
use Rattle.bf_core.specs.Events.{IsEnabled, cell_at, has_room_in, instance_of}
use Rattle.bf_core.specs.Cores.{Backfill, GoesOn, IsReplay, MayCome, WaitsLater}
use Rattle.bf_core.specs.Clocks.{IsMove}
use Rattle.bf_core.proofs.Kept.{replay_invariant, replay_shaped}
use Rattle.bf_core.proofs.Stuck.{never_stuck}

-- an event that the state lets come, and that is none of the clock, may come, or its try waits for a later moment
in_time : (b : Backfill) (e : Event) → IsEnabled b.dag b.limits b.state e → IsMove e → ((f : Event) × MayCome b f × IsMove f) ⊎ ((n : JobName) × WaitsLater b n)
in_time b Event.Open able move = inl (Event.Open, (able, tt), tt)
in_time b (Event.Settle k t) able move = inl (Event.Settle k t, (able, tt), tt)
in_time b (Event.Expand k t) able move = inl (Event.Expand k t, (able, tt), tt)
in_time b (Event.End n o) able move = inl (Event.End n o, (able, tt), tt)
in_time b (Event.Close k) able move = inl (Event.Close k, (able, tt), tt)
in_time b (Event.Tick m) able move = absurd move
in_time b (Event.Begin n) able move = go (map.get b.clock.moments n) refl
  where
    go : (o : Option ℤ) → map.get b.clock.moments n ≡ o → ((f : Event) × MayCome b f × IsMove f) ⊎ ((n : JobName) × WaitsLater b n)
    go None e = inl (Event.Begin n, (able, rw e tt), tt)
    go (Some m) e = by_lt_z b.clock.time m (λ later. inr (n, record { waits = able.0; moment = m; is_moment = e; is_later = later })) (λ come. inl (Event.Begin n, (able, rw e come), tt))

pub never_stuck_in_time : (b : Backfill) → IsReplay b → AreLimits b.dag b.limits →
    ((k t i : ℕ) (x : Instance) → instance_of (cell_at b.state k t) i ≡ Some x → x.phase ≡ Phase.Running → ⊥) → ((t : ℕ) → has_room_in b.limits b.state t ≡ true) →
    GoesOn b
never_stuck_in_time b is fit idle room =
    elim (never_stuck b.dag is.sound b.limits b.runs b.state (replay_invariant b is) (replay_shaped b is) idle room fit.some_runs) [
      | inl ended ↦ inl ended
      | inr m ↦ inr (in_time b m.0 m.1 m.2)
    ]
