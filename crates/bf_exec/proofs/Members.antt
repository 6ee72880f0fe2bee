-- A try that weighs no more than all that run, however tries are weighed, is one that runs.
use Rattle.std.proofs.Common.{◌≡◌, ◌⊎◌, ◌<◌, ◌≤◌, ◌&&◌, ℕ, zero, suc, nat_eq, Bool, true, false, if◌then◌else◌, List, [], ◌∷◌, slice_get, slice_index_or, Some, refl, sym, ap, ap₂, ◌∙◌, subst, inl, inr, arith, true≢false}
use Rattle.std.proofs.lemmas.Bool.{and_parts, eq-eqb, eqb-true}
use base.Stored.{Gv, gnil, gnum, gcons}
use Rattle.bf_try.specs.Asked.{Asked}
use Rattle.bf_try.specs.Tries.{name_of}
use Rattle.bf_try.specs.contracts.tickets.Ticket as ticket
use Rattle.bf_core.specs.declared.state.Cell.{Cell}
use Rattle.bf_core.specs.declared.state.Instance.{Instance}
use Rattle.bf_core.specs.declared.state.Phase.{Phase}
use Rattle.bf_core.specs.declared.state.Run.{Run}
use Rattle.bf_core.specs.declared.state.State.{State}
use Rattle.bf_core.specs.Events.{IsPresent, cell_at, cell_in, given_in, given_of, instance_of, no_run, place_in}
use Rattle.bf_core.specs.Cores.{Backfill, IsReplay}
use Rattle.bf_core.specs.Running.{running_by_place, running_tries, sum_by_place, sum_of_running, while_running}
use Rattle.bf_core.proofs.Placing.{read_row}
use Rattle.bf_core.proofs.Named.{place_named, present_named}

-- ---- a sum that isn't 0 has a member that isn't

none_or_some : (n : ℕ) → (n ≡ 0) ⊎ (0 < n)
none_or_some zero = inl refl
none_or_some (suc n) = inr (omega arith)

record IsMember {A : Type 0} (f : ℕ → A → ℕ) (xs : List A) : Type 0 where
  at : ℕ
  member : A
  here : slice_get xs at ≡ Some member
  counts : 0 < f at member

sum_member : {A : Type 0} (f : ℕ → A → ℕ) (xs : List A) → 0 < sum_by_place f xs → IsMember f xs
sum_member f [] some = absurd (omega (arith, some))
sum_member f (x ∷ xs) some = elim (none_or_some (f 0 x)) [
  | inl none ↦ (let rest : IsMember (λ i. f (suc i)) xs = sum_member (λ i. f (suc i)) xs (omega (arith, some, none)) in record { at = suc rest.at; member = rest.member; here = rest.here; counts = rest.counts })
  | inr counts ↦ record { at = 0; member = x; here = refl; counts = counts }
]

-- an instance that runs, of which f isn't 0
pub record HasRunning (f : ℕ → ℕ → ℕ → Instance → ℕ) (s : State) : Type 0 where
  pub run : ℕ
  pub task : ℕ
  pub place : ℕ
  pub held : Instance
  pub is_held : instance_of (cell_at s run task) place ≡ Some held
  pub runs : held.phase ≡ Phase.Running
  pub counts : 0 < f run task place held

while_counts : (p : Phase) (n : ℕ) → 0 < while_running p n → (p ≡ Phase.Running) × (0 < n)
while_counts Phase.Waiting n some = absurd (omega (arith, some))
while_counts Phase.Running n some = (refl, some)
while_counts (Phase.Finished o) n some = absurd (omega (arith, some))

in_cell : (f : ℕ → Instance → ℕ) (c : Cell) → 0 < running_by_place f c → (i : ℕ) × (x : Instance) × (instance_of c i ≡ Some x) × (x.phase ≡ Phase.Running) × (0 < f i x)
in_cell f (Cell.Ran xs) some =
    let m : IsMember (λ i x. while_running x.phase (f i x)) xs = sum_member (λ i x. while_running x.phase (f i x)) xs some in
    let w : _ = while_counts m.member.phase (f m.at m.member) m.counts in
    (m.at, m.member, m.here, w.0, w.1)
in_cell f Cell.Undecided some = absurd (omega (arith, some))
in_cell f Cell.Blocked some = absurd (omega (arith, some))
in_cell f Cell.Skipped some = absurd (omega (arith, some))
in_cell f Cell.UpstreamFailed some = absurd (omega (arith, some))

running_member : (f : ℕ → ℕ → ℕ → Instance → ℕ) (s : State) → 0 < sum_of_running f s → HasRunning f s
unfolding cell_in
running_member f s some =
    let row : IsMember (λ k (r : Run). sum_by_place (λ t c. running_by_place (f k t) c) r.cells) s.runs = sum_member (λ k (r : Run). sum_by_place (λ t c. running_by_place (f k t) c) r.cells) s.runs some in
    let cell : IsMember (λ t c. running_by_place (f row.at t) c) row.member.cells = sum_member (λ t c. running_by_place (f row.at t) c) row.member.cells row.counts in
    let found : _ = in_cell (f row.at cell.at) cell.member cell.counts in
    let row_is : slice_index_or s.runs row.at no_run ≡ row.member = read_row s.runs row.at row.member no_run row.here in
    let cell_is : slice_index_or row.member.cells cell.at Cell.Undecided ≡ cell.member = read_row row.member.cells cell.at cell.member Cell.Undecided cell.here in
    let is : cell_at s row.at cell.at ≡ cell.member = ap (λ (r : Run). slice_index_or r.cells cell.at Cell.Undecided) row_is ∙ cell_is in
    record { run = row.at; task = cell.at; place = found.0; held = found.1; is_held = ap (λ c. instance_of c found.0) is ∙ found.2; runs = found.3; counts = found.4 }

-- ---- tries are told apart by their codes

same_code : Gv → Gv → Bool
same_code gnil gnil = true
same_code (gnum a) (gnum b) = nat_eq a b
same_code (gcons a b) (gcons c d) = same_code a c && same_code b d
same_code a b = false

code_self : (a : Gv) → same_code a a ≡ true
unfolding same_code
code_self gnil = refl
code_self (gnum a) = eq-eqb a a refl
code_self (gcons a b) = ap₂ (λ x y. x && y) (code_self a) (code_self b)

code_same : (a b : Gv) → same_code a b ≡ true → a ≡ b
unfolding same_code
code_same gnil gnil e = refl
code_same (gnum a) (gnum b) e = ap gnum (eqb-true a b e)
code_same (gcons a b) (gcons c d) e = let both : _ = and_parts (same_code a c) (same_code b d) e in ap₂ gcons (code_same a c both.0) (code_same b d both.1)
code_same a b e = absurd (true≢false (sym e))

-- 1 of that try, and 0 of any other
just : Asked → Asked → ℕ
just x y = if same_code (ticket.the_row.coded.code x) (ticket.the_row.coded.code y) then 1 else 0

just_self : (x : Asked) → just x x ≡ 1
unfolding just
just_self x = ap (λ (b : Bool). if b then 1 else 0) (code_self (ticket.the_row.coded.code x))

just_same : (x y : Asked) → 0 < just x y → x ≡ y
unfolding just
just_same x y counts = ticket.the_row.coded.inj x y (code_same _ _ (by (same_code (ticket.the_row.coded.code x) (ticket.the_row.coded.code y)) counts))
  where
    by : (b : Bool) → 0 < (if b then 1 else 0) → b ≡ true
    by true l = refl
    by false l = absurd (omega (arith, l))

-- ---- the try that runs

pub record Runs (b : Backfill) (x : Asked) : Type 0 where
  pub present : IsPresent b.dag b.state x.name Phase.Running
  pub given : given_in (cell_at b.state x.name.run x.name.task) (place_in b.dag x.name) ≡ x.given

-- the present try of a running instance runs
named_runs : (b : Backfill) → IsReplay b → (k t i : ℕ) (x : Instance) → instance_of (cell_at b.state k t) i ≡ Some x → x.phase ≡ Phase.Running → Runs b (record { name = name_of b.dag k t i x.attempt; given = x.given })
unfolding name_of
named_runs b replayed k t i x is_held runs = record {
  present = present_named b replayed k t i x is_held Phase.Running runs;
  given = ap (λ j. given_in (cell_at b.state k t) j) (place_named b replayed k t i x is_held) ∙ ap given_of is_held;
}

pub runs_there : (b : Backfill) → IsReplay b → (x : Asked) → ((h : Asked → ℕ) → h x ≤ running_tries h b.dag b.state) → Runs b x
runs_there b replayed x weighs =
    subst (Runs b) (sym (just_same x (record { name = name_of b.dag there.run there.task there.place there.held.attempt; given = there.held.given }) there.counts))
    (named_runs b replayed there.run there.task there.place there.held there.is_held there.runs)
  where
    some : 0 < running_tries (just x) b.dag b.state
    some = let w : _ = weighs (just x) in let one : _ = just_self x in omega (arith, w, one)

    there : HasRunning (λ k t i y. just x (record { name = name_of b.dag k t i y.attempt; given = y.given })) b.state
    there = running_member (λ k t i y. just x (record { name = name_of b.dag k t i y.attempt; given = y.given })) b.state some
