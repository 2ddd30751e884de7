mod Telling
mod NamedLanes
mod Racing
