pub mod SizeGives
pub mod SencWalk
pub mod SumGives
pub mod EventGives
pub mod Gives
