pub mod Views
pub mod Messages
pub mod Links
pub mod Marks
pub mod Wires
