pub mod TookLaws
pub mod AnsweredLaws
pub mod RefusalLaws
