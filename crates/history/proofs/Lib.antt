-- From one row's step to the theorem.
--   Lawful      what an operation has to show, and THE THEOREM over it
--   Ring        padded rows in a ring, reached by row indices
--   Steps       an advance is so many steps of one row
--   Memory      what a unit remembers between rows, and that with any memory and any filter one row's step is lawful
--   Fits        what an operation has to show of an advance over any state
--   Theorem     one theorem for every operation
pub mod Lawful
pub mod Ring
pub mod Steps
pub mod Memory
pub mod Fits
pub mod Theorem
