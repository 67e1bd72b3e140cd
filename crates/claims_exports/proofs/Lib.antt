-- The demands of the exports, what the calls on a whole stream give, and the laws they rest on.
pub mod Estimates
pub mod Averages
pub mod Records
pub mod Details
pub mod Answers
pub mod StepDemand1
pub mod TakenBack
pub mod SolveSteps
pub mod Streams
pub mod SolveStreams
pub mod SharedReplies
pub mod FramesReplies
