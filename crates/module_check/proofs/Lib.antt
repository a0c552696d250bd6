mod Edges
pub mod NoPhis
mod Phases
mod Standing
