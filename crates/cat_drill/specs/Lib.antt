pub mod Ending
pub mod DrillWires
pub mod Calling
