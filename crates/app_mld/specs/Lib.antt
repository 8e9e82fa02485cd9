pub mod Mld
