pub mod Ropes
