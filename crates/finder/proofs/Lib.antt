pub mod Finding
pub mod Rising
pub mod Listing
pub mod Claims
pub mod Cases
