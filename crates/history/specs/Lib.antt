-- Read History first: a unit, its events, its histories and what holds after one. Advance says what an advance is over any state.
pub mod History
pub mod Advance
