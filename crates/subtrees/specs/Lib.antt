pub mod Descendant
pub mod Blocks
pub mod Parents
pub mod Subtrees
