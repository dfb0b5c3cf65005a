pub mod SizeLines
pub mod SencLines
pub mod SetRead
pub mod FrontSaid
