pub mod Memory
pub mod Laws
