pub mod Children
pub mod Found
