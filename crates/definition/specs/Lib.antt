-- docs/SCOPE.md as definitions, in its order, but for the table of skip sums: it stands last, since it is printed as text. A reader who believes these files has read what a restored sample, a class index, a refusal, a card's answer and that table are.
pub mod Numbers
pub mod Rows
pub mod ClassIndex
pub mod Sample
pub mod Padding
pub mod Blocks
pub mod Limits
pub mod Units
pub mod Planes
pub mod Answers
pub mod Calls
pub mod Refusals
pub mod Leaves
pub mod Card
pub mod SkipSums
pub mod StateText
