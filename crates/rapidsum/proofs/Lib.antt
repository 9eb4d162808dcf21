mod Checks
mod Lines
mod Lists
mod Meaning
mod Named
mod Tags
