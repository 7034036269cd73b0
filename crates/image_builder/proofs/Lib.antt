mod Listed
mod Regions
mod Finals
mod Further
mod AtRest
mod Ready
mod Booted
