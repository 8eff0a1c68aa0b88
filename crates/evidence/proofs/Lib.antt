-- Why the order of the evidence decides nothing but which of several chains fills an account in. The steps to the theorem `alike` (Order):
--   Recording            T1: the table says of each account what the evidence says
--   Distinct             T2: no account twice; counting by accounts
--   Chains               T3: `settled-sound`, T4: `complete`: the rows that passes add are those that chains reach
--   Independence         T5: `same-recorded`, `same-chain`, `same-room`
--   Bound                T6: `enough`: the passes end
--   Reach, Marks         T7: `mark-right`: the computed mark is that of the chains; `same-mark`
-- Laws of a definition stand in the module of its name. For code: Lookups (what a search finds after each step), Loops (some items more, passes counted),
-- Doubts (the marks by transfers and settled mints), Written (rows however they were sorted). Cases: worked cases.
pub mod Table
pub mod Evidence
pub mod Recording
pub mod Distinct
pub mod Passes
pub mod Run
pub mod Infer
pub mod Chains
pub mod Sorted
pub mod Final
pub mod Gather
pub mod Independence
pub mod Bound
pub mod Reach
pub mod Marks
pub mod Doubts
pub mod MintTable
pub mod Order
pub mod Cases
pub mod Lookups
pub mod Loops
pub mod Written
