-- Laws of `session` that belong to no one function, a file a topic.
pub mod Calling
pub mod PassedCalls
pub mod Advancing
pub mod SolvedCalls
pub mod KeptSessions
