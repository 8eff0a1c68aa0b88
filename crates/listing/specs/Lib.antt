pub mod Decimal
pub mod Listing
pub mod Tree
pub mod Puts
