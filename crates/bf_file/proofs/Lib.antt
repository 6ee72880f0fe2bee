mod Holding
mod Writing
