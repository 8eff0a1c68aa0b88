pub mod Below
pub mod Same
pub mod Order
pub mod Members
pub mod Ascending
pub mod Le
pub mod Zeros
pub mod Tab
