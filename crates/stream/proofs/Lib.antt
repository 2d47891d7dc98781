pub mod Laws
pub mod WholeInput
