mod Tried
mod Spots
mod Told
mod Firsts
mod Advised
