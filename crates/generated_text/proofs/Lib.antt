mod Numbers
mod Pieces
mod Pushed
