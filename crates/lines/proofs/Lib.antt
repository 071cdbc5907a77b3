pub mod LineLaws
pub mod StepsLaws
