-- What contracts see of a plan.
use Rattle.bf_cron.specs.declared.spec.CronSpec.{CronSpec}
use Rattle.bf_plan.specs.declared.plan.Dag.{Dag}
use Rattle.bf_plan.specs.declared.plan.Limits.{Limits}

pub record Checked : Type 0 where
  pub dag : Dag
  pub limits : Limits
  pub schedule : CronSpec
