mod Laws
mod Due
mod EndOfDrill
mod DrillBeginning
pub mod Values
pub mod DrillWireReads
pub mod DrillCallers
mod Sourcing
mod Crossing
