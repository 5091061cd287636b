-- Answers is how long an answer is at most; Put, what private functions leave, need not be read.
pub mod Answers
pub mod Put
