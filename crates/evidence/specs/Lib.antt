-- Where an account's mint comes from, in the order of reading:
--   Table                rows, `lookup`, `Has`, `Lacks`
--   Evidence             `recorded`: what evidence leaves; `Says`, `Free`, `One`, `Clash`: what it says
--   Passes, Run, Infer   `step`, `pass`; passes until one adds nothing
--   Chains               `Chain`: how a mint reaches an account
--   Sorted, Final        `final`: no ambiguous rows, sorted
--   Marks, MintTable     `Mark` by chains, and computed, `mark_of`; `mints`: rows, room, passes
--   Gather, Independence words for the theorems: the same items in any order, `Apart`, `DifferInDoubt`
pub mod Table
pub mod Evidence
pub mod Passes
pub mod Run
pub mod Infer
pub mod Chains
pub mod Sorted
pub mod Final
pub mod Marks
pub mod MintTable
pub mod Gather
pub mod Independence
