pub mod ImageLines
pub mod ParameterLines
pub mod RefusalLine
