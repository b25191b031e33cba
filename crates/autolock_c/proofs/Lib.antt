mod Emitting
mod Prefixes
