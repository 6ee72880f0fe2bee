-- The pieces of a bare record, as they are written.
use Rattle.std.specs.Prelude.{◌≡◌, ℕ, ℤ, pos, FitsSigned, IsUtf8, List, [], ◌∷◌, ◌++◌, position, Some, slice_get}
use Rattle.std.specs.Fmt.{signed_decimal}
use Rattle.std.specs.Int.{w64}
use Rattle.std.specs.Str.{bytes_eq}
use Rattle.json.specs.Print.{quoted}
use Rattle.bf_value.specs.declared.name.JobName.{JobName}
use Rattle.bf_plan.specs.declared.plan.Dag.{Dag}
use Rattle.bf_plan.specs.Plans.{shape_of}
use Rattle.bf_interval.specs.declared.interval.Interval.{Interval}
use Rattle.bf_journal.specs.Records.{IsName}
use Rattle.bf_journal.specs.inner.Tells.{StartsAt}

-- the line begins with the name of a try, and this stands behind it
pub record BeginsRecord (dag : Dag) (intervals : List Interval) (line : List ℕ) (name : JobName)
    (rest : List ℕ) : Type 0 where
  pub run : List ℕ
  pub task : List ℕ
  pub run_utf8 : IsUtf8 run
  pub task_utf8 : IsUtf8 task
  pub starts : StartsAt (slice_get intervals name.run) run
  pub is_task : position (bytes_eq task) (shape_of dag).ids ≡ Some name.task
  pub is_name : IsName name
  pub is : line ≡ 91 ∷ (quoted run ++ 44 ∷ (quoted task ++ 44 ∷ (signed_decimal name.index
      ++ 44 ∷ (signed_decimal (pos name.attempt) ++ 44 ∷ rest))))

-- the text is a stamp of these numbers, and the bracket that ends a record
pub record IsStamp (text : List ℕ) (start end code : ℤ) : Type 0 where
  pub start_fits : FitsSigned w64 start
  pub end_fits : FitsSigned w64 end
  pub code_fits : FitsSigned w64 code
  pub is : text ≡ 91 ∷ ((signed_decimal start ++ 44
      ∷ (signed_decimal end ++ 44 ∷ signed_decimal code)) ++ 93 ∷ 93 ∷ [])
