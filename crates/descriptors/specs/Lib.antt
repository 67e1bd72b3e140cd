-- What the contracts of `descriptors` cite. Definitions only.
pub mod Moved
