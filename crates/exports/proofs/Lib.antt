pub mod ByteLaws
pub mod RoomLaws
pub mod LentLaws
pub mod CallLaws
pub mod ExampleLaws
