-- Theorems on packed telemetry frames, a file a topic.
mod Rounding
pub mod Nearest
pub mod Import
pub mod Only
pub mod Lengths
