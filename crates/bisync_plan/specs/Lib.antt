pub mod Conditions
pub mod Plans
pub mod Faults
pub mod CellSteps
pub mod CellRows
pub mod MergedRows
