mod Stating
mod Verdicts
mod Needing
mod Concluding
mod Judges
mod Slots
mod Lacking
pub mod Called
mod Related
mod Written
mod StatedBy
mod WrittenText
mod FedBack
