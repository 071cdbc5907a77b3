pub mod DecisionLaws
pub mod ReportLaws
