pub mod Natives
pub mod ByLayout
pub mod Numbers
pub mod Rows
