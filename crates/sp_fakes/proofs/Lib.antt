mod Given
mod Left
mod Listening
mod Queues
mod FileNames
mod Frames
