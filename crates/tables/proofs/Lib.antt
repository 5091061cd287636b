pub mod SkipSums
