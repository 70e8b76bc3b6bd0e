pub mod CellRules
