pub mod States
pub mod StateSets
pub mod Stored
pub mod Machine
pub mod Targets
pub mod Sides
pub mod PairSets
