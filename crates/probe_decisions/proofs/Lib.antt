pub mod SearchLaws
pub mod DecisionLaws
pub mod StepLaws
