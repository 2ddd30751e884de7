mod Driving
mod Contexts
