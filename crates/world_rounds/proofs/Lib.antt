mod Rounding
mod Converting
mod Granted
mod Saying
mod Publishes
