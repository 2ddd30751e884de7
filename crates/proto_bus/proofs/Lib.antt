pub mod Bussed
