-- Which tries run.
use Rattle.std.specs.Prelude.{ℕ, suc, ◌+◌, List, [], ◌∷◌}
use Rattle.bf_try.specs.Asked.{Asked}
use Rattle.bf_core.specs.Terms.{Cell, Dag, Instance, Phase, State, name_of}

-- the sum of what is measured of each place and member of a list
abbrev pub sum_by_place : {A : Type 0} → (ℕ → A → ℕ) → List A → ℕ
sum_by_place measure [] = 0
sum_by_place measure (first ∷ rest) =
    measure 0 first + sum_by_place (λ place. measure (suc place)) rest

-- the number where the instance runs, else 0
abbrev pub while_running : Phase → ℕ → ℕ
while_running Phase.Waiting number = 0
while_running Phase.Running number = number
while_running (Phase.Finished outcome) number = 0

abbrev pub running_by_place : (ℕ → Instance → ℕ) → Cell → ℕ
running_by_place measure (Cell.Ran instances) =
    sum_by_place (λ place instance. while_running instance.phase (measure place instance)) instances
running_by_place measure cell = 0

-- the sum of what is measured of the instances that run, each by its run, task and place
abbrev pub sum_of_running : (ℕ → ℕ → ℕ → Instance → ℕ) → State → ℕ
sum_of_running measure state =
    sum_by_place (λ run row. sum_by_place
    (λ task cell. running_by_place (measure run task) cell) row.cells) state.runs

-- the sum of what is measured of the tries that run
abbrev pub running_tries : (Asked → ℕ) → Dag → State → ℕ
running_tries measure dag state =
    sum_of_running (λ run task place instance. measure
    (record { name = name_of dag run task place instance.attempt; given = instance.given })) state

-- how many tries run
abbrev pub running_now : State → ℕ
running_now state = sum_of_running (λ run task place instance. 1) state
