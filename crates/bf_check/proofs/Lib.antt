pub mod ListLemmas
pub mod FaultLemmas
pub mod NumberLemmas
pub mod PullLemmas
mod UnsettledLemmas
pub mod PlanLemmas
pub mod TaskLemmas
pub mod PoolLemmas
mod OneAnswer
