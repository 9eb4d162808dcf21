pub mod Bytes
pub mod Mapped
pub mod Versions
