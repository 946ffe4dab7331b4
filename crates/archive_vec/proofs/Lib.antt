pub mod Layouts
pub mod Finding
pub mod Adding
pub mod Putting
pub mod ReadingSteps
pub mod MergingSteps
