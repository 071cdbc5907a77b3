pub mod AutLaws
