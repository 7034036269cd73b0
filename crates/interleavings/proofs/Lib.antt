mod Watched
mod Alike
mod Seeing
mod Paths
mod Stepwise
mod Rounds
mod Must
