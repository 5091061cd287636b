-- A model of the code that restores a unit row by row, and the laws that lead from it to the definition.
--   Rows, LumaRows   the padded rows, and which of them are padded anew
--   Bytes            padded from bytes, a row is bytes
--   Views            what a filter sees of them
--   Classes          class indices that agree
--   Cells, Step      one row's step
--   Opening          the rows that an opening pads
--   Fine             what a status of 0 says of a unit
pub mod Rows
pub mod Fine
pub mod Views
pub mod LumaRows
pub mod Bytes
pub mod Classes
pub mod Cells
pub mod Step
pub mod Opening
