-- Laws and theorems of `arithmetic` that belong to no one function, a file a topic.
pub mod Finite
pub mod Numbers
pub mod Rows
