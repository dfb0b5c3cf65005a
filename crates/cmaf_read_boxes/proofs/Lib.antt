pub mod BoxLaws
