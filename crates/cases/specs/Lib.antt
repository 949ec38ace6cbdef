pub mod Cases
pub mod MoreCases
pub mod RangeCases
pub mod OrderCases
pub mod FigureCases
pub mod ProfileCases
pub mod JoinCases
pub mod TableCases
