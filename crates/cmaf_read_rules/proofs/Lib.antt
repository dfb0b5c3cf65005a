pub mod ClockLaws
pub mod CountLaws
pub mod EntryRules
pub mod InfoLaws
pub mod PairLaws
pub mod RuleFacts
pub mod RuleLaws
