mod Loops
mod Lines
