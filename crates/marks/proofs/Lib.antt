pub mod MoveTestLaws
pub mod LostLaws
pub mod RoundLaws
