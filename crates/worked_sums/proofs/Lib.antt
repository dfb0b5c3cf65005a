pub mod SumsHold
