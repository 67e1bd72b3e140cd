-- Laws of `session_commands` that belong to no one function, a file a topic.
pub mod HeldViews
pub mod PossibleRecords
pub mod Obeying
pub mod SolveCommands
