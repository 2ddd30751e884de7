pub mod Buses
pub mod BusLaws
