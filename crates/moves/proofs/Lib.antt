pub mod SurvivorLaws
pub mod CollectedLaws
pub mod TargetLaws
