-- Each module rests on those above it:
--   Adds, Lines, Tables   sums that add, lines put in order, a report told by its lines and what it has on each
--   Parts      the parts of transfers sum to the sums of each line
--   Reports    `fed-report`, `report-perm`, `report-sorted`, `report-touched`, `touched-report`
--   Adding     `fed-adds`: feeding is adding parts             Feeding   `fed-three`, `fed-one`, `add_comm`, `add_at`, `add-on`
--   Rows       `fed-used`: the rows used after feeding         Totals    `balanced`
--   Bound      `report-within`, `report-lined`                 Wide      `wide-add`, `high_fits`
--   Reading    `read-written`, `table-formed`                  Passing   `report-passed`, `report-passes`
--   Answers    `outcome`: refused, or all tests passed         Cases     worked cases
--   Months     `feeds-unique`; of calls one after the other `month-left`, `month-buffer`, `month-balances`, `month-any-order`, `month-next`, `month-never-20`
-- For the proofs of code:
--   Prefixes   a test that the first rows fail                 Views     rows of a buffer by their places
--   Spots      where a line stands or belongs                  Numbered  a line of a table by its number
--   Posting    a row with sums added                           Posts     a transfer added to the rows of its lines
--   Least      the lines that are new, and the least of them   Noting    lines held by their numbers
--   Gathering  the lines of transfers, one after the other     Counting  new lines from the least up
--   Moves      bytes moved up                                  Merging   empty rows put in for new lines
--   Bearing    room for further sums                           Batches   transfers that wait, and parts of a table
pub mod Adds
pub mod Lines
pub mod Tables
pub mod Parts
pub mod Reports
pub mod Adding
pub mod Feeding
pub mod Rows
pub mod Totals
pub mod Bound
pub mod Wide
pub mod Reading
pub mod Passing
pub mod Answers
pub mod Months
pub mod Prefixes
pub mod Views
pub mod Spots
pub mod Numbered
pub mod Posting
pub mod Posts
pub mod Least
pub mod Noting
pub mod Gathering
pub mod Counting
pub mod Moves
pub mod Merging
pub mod Bearing
pub mod Batches
pub mod Cases
