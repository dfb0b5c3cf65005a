pub mod AnswerLaws
pub mod ShareLaws
pub mod CallLaws
pub mod TableLaws
pub mod Apart
pub mod StaysLawful
pub mod ShareParts
