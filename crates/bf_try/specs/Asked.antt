-- What contracts see of a ticket and of an answer.
use Rattle.bf_value.specs.declared.name.JobName.{JobName}
use Rattle.bf_xcom.specs.declared.values.Given.{Given}
use Rattle.bf_try.specs.declared.answers.Raw.{Raw}

-- a try that may be run once
pub record Asked : Type 0 where
  pub name : JobName
  pub given : Given

-- a try that was run, and what it answered
pub record Answered : Type 0 where
  pub name : JobName
  pub given : Given
  pub raw : Raw
