-- What a whole stream answers, which poses a session then holds, states that differ in no held pose, the direct call and the Rust function's
-- grid that Solve stands for, what the demands ask of its answer, and what demand 1 asks of one call. Definitions only.
pub mod Stream
pub mod Held
pub mod Alike
pub mod DirectInputs
pub mod RustGrids
pub mod SolveDemands
pub mod CallDemand1
pub mod TakenBack
