pub mod CommandLine
pub mod Faults
pub mod Hashes
pub mod Help
pub mod Lines
