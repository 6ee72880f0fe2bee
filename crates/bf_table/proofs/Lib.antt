pub mod IndexLemmas
pub mod KeyLemmas
pub mod TableLemmas
pub mod TableSize
