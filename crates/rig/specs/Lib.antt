-- What the contract of `rig`'s loop cites. Definitions only.
pub mod AllObeyed
