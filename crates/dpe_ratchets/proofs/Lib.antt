mod Stepping
mod Opening
mod Spelling
mod OneRequest
mod Ending
