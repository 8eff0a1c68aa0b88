pub mod Decimal
pub mod Texts
pub mod Lengths
pub mod Listing
pub mod Room
pub mod Rows
pub mod Drawing
pub mod Claims
