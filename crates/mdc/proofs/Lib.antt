mod SoundStart
mod Header
mod Answering
mod WireAnswering
mod ImageAnswering
