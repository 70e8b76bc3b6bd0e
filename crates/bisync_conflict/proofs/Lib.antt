pub mod CellLosers
pub mod SetsOfNames
pub mod FreeCandidates
pub mod LongerPaths
pub mod CandidatePaths
pub mod NamesSoFar
