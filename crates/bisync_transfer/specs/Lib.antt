pub mod Tally
pub mod CallsMade
pub mod FileCopy
pub mod StepEffect
pub mod StepAnswer
pub mod StepTrees
