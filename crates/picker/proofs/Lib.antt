pub mod PickLaws
pub mod DemandLaws
pub mod ExampleLaws
