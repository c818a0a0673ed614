mod Blocks
mod Limits
