pub mod Keys
pub mod Mints
pub mod Ids
pub mod Which
pub mod KeyPrograms
