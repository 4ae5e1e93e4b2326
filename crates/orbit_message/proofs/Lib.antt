pub mod TemplateValues
mod LineEnds
mod MatchSteps
mod FillSteps
pub mod EveryElement
mod TextTests
mod PutCases
mod StateCases
pub mod MessageTemplate
pub mod ValueLines
mod ReadCases
mod WriteCases
