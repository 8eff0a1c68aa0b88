-- Month totals by mint. Each module rests on those above it:
--   Transfers  `FedTransfer`, `summed`, the lines that it touches, `Formed`
--   Sums       the sums of a line over a list of transfers: `debits_of`, `credits_of`, `fees_of`, `apart_of`
--   Report     `report_of` a list of transfers; `fed_into`: transfers fed into a report
--   Totals     totals over mint lines and account lines; `Balanced`
--   Bytes      rows of 150 and of 118 bytes, the tests behind 19 and 20, and `feed`: the answer to a table
--   Refusals   why a table is not fed, by its number
--   Call       `Feeds`: what the call promises
--   Months     `Calls`: calls one after the other, and the transfers that they fed
-- For code: Adding (`add_row`: one line's part added to a report; `new_in`: how many lines are new), Wide (128 bits as two of 64),
-- Lookup (where a line stands, which lines are new), Standing (what has to be before a step, and what a step leaves).
pub mod Transfers
pub mod Sums
pub mod Report
pub mod Totals
pub mod Adding
pub mod Wide
pub mod Bytes
pub mod Lookup
pub mod Standing
pub mod Refusals
pub mod Call
pub mod Months
