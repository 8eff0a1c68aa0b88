pub mod Laws
pub mod Forms
pub mod Fields
pub mod Differences
pub mod Published
