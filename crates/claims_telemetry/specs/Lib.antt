-- What is claimed of packed telemetry frames. Definitions only; the proofs are in proofs/.
pub mod Nearest
pub mod Import
