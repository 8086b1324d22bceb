mod Quietly
mod Readying
mod Reaching
