pub mod ListLemmas
pub mod RepeatFolds
pub mod StringLaws
pub mod AnswerLaws
pub mod ParamLists
pub mod ParamLaws
pub mod InPlaceLaws
