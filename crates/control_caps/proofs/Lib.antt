mod Done
mod Invoked
