pub mod Sets
pub mod Utf8
pub mod Said
pub mod Laws
pub mod Private
