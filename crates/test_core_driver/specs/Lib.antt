pub mod Drives
