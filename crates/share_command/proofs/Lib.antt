mod Behind
mod Few
