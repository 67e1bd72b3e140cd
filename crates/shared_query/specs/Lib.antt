-- What a session says of two cameras. Definitions only.
pub mod Query
