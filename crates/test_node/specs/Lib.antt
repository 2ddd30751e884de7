pub mod SlowNets
