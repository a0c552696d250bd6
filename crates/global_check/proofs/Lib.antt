mod Apart
mod Faults
mod Places
mod Sizes
