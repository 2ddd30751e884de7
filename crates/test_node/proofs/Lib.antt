pub mod ReturnedLinks
