-- Read Openings, Advances, Texts and Histories, in this order: what the public functions promise, and what holds after any list of events.
pub mod Openings
pub mod Advances
pub mod Texts
pub mod Histories
-- The others need not be read: the model of a row's step, whose samples the theorem of the histories gives, and what private functions ask and leave.
pub mod Step
pub mod Padded
pub mod Restored
pub mod Windows
pub mod LumaFrom
