pub mod FieldLemmas
pub mod CommandLemmas
pub mod DistinctLemmas
pub mod TaskLemmas
pub mod FileLemmas
pub mod PoolLemmas
