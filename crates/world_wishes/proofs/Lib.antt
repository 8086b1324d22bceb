mod Offered
mod Supers
